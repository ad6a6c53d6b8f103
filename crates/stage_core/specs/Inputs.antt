-- What a job is given.
use Rattle.std.specs.Prelude.{ℕ, List, [], length, take, flat_map, filter_map, slice_get, Option, Some, None, unwrap_or}
use Rattle.index_model.specs.declared.entry.Entry.{Entry}
use Rattle.index_model.specs.declared.job.CacheKind.{CacheKind}
use Rattle.index_model.specs.declared.job.Job.{Job}
use Rattle.index_model.specs.declared.job.Job.TheVariants.{Scan, Link, Main, Name, Merge, Write}
use Rattle.index_model.specs.declared.shard.Shard.{Shard}
use Rattle.index_model.specs.declared.shard.Linked.{Linked}
use Rattle.index_model.specs.Machine.{State, place_of_job}
use Rattle.index_model.specs.Outputs.{Subject, Made, ShardOf, LinkedOf, RunOf, run_of}
use Rattle.index_model.specs.Parts.{Parts, parts}

-- the number of the first unit and how many there are; shards; shards and links; runs of entries; or what has been published
pub data Given : Type 0 where
  UnitsOf : ℕ → ℕ → Given
  ScansOf : List Shard → Given
  LinksOf : List Shard → List Linked → Given
  RunsOf : List (List Entry) → Given
  PublishedOf : Parts → CacheKind → Given

-- a job and what it is given
pub record Handed : Type 0 where
  pub job : Job
  pub given : Given

-- ---- what jobs made

-- a shard, if this was made
abbrev pub shard_in : Made → Option Shard
shard_in (ShardOf shard) = Some shard
shard_in other = None

-- a run's links, if this was made
abbrev pub linked_in : Made → Option Linked
linked_in (LinkedOf linked) = Some linked
linked_in other = None

-- a run of entries, if this was made
abbrev pub run_in : Made → Option (List Entry)
run_in (RunOf es) = Some es
run_in other = None

-- what the jobs of a job's kind made, once the kind is closed
abbrev pub made_by_kind : State Made → Job → List Made
made_by_kind t job = unwrap_or (slice_get t.closed (place_of_job job).kind) []

-- ---- inputs

-- the number of the first unit of run k
abbrev pub first_of : Subject → ℕ → ℕ
first_of s k = length (flat_map (λ run. run) (take k s.runs))

-- what a job is given; all lists are in the order of the jobs
abbrev pub input_of : Subject → State Made → Job → Given
input_of s t (Scan k) = UnitsOf (first_of s k) (length (run_of s k))
input_of s t (Link k) = ScansOf (filter_map shard_in (made_by_kind t (Scan 0)))
input_of s t Main = LinksOf (filter_map shard_in (made_by_kind t (Scan 0))) (filter_map linked_in (made_by_kind t (Link 0)))
input_of s t (Name k) = LinksOf (filter_map shard_in (made_by_kind t (Scan 0))) (filter_map linked_in (made_by_kind t (Link 0)))
input_of s t Merge = RunsOf (filter_map run_in (made_by_kind t (Name 0)))
input_of s t Write = PublishedOf (parts t) s.cache

-- the job with what it is given
abbrev pub handed : Subject → State Made → Job → Handed
handed s t job = record { job = job; given = input_of s t job }

-- What an output is for a job.
use Rattle.std.specs.Prelude.{◌≡◌, ℕ, Bool, ◌==◌, List, [], ◌∷◌, filter, slice_get, Option, Some, None, unwrap_or, Result, IsOkAnd, ⊤}
use Rattle.std.specs.List.{list_any}
use Rattle.ix_base.specs.declared.fault.Fault.{Fault}
use Rattle.index_model.specs.declared.answer.Main.{Main as MainOf}
use Rattle.index_model.specs.declared.entry.Entry.{Entry}
use Rattle.index_model.specs.declared.job.CacheKind.{CacheKind}
use Rattle.index_model.specs.declared.job.Job.{Job}
use Rattle.index_model.specs.declared.job.Job.TheVariants.{Scan, Link, Main, Name, Merge, Write}
use Rattle.index_model.specs.declared.range.UnitRange.{UnitRange}
use Rattle.index_model.specs.declared.shard.Shard.{Shard}
use Rattle.index_model.specs.declared.shard.Linked.{Linked}
use Rattle.index_model.specs.declared.unit.Unit.{Unit as UnitHeader}
use Rattle.index_model.specs.Meaning.{◌>>=◌, each, wrong_in}
use Rattle.index_model.specs.Sections.{sections_of}
use Rattle.index_model.specs.Program.{Walked}
use Rattle.index_model.specs.Links.{Link as LinkOf, links_in}
use Rattle.index_model.specs.MainProgram.{main_of}
use Rattle.index_model.specs.Faults.{scanned, program_of, built_of, first_fault}
use Rattle.index_model.specs.Answers.{entries_in}
use Rattle.index_model.specs.Shards.{StandsFor, IsLinked}
use Rattle.index_model.specs.Pieces.{IsPieces}
use Rattle.index_model.specs.Cache.{Cache, cache_in}
use Rattle.index_model.specs.Machine.{Output, Memory, Faulty, Gave}
use Rattle.index_model.specs.MachineEvents.{Event, Draw, Finish, Look}

-- what no event changes: the file's bytes, the runs of its numbered units, and the kind of the index
pub record Subject : Type 0 where
  pub file : List ℕ
  pub runs : List (List (ℕ × UnitHeader))
  pub cache : CacheKind

-- main, and the map of addresses as its pieces
pub record Summary : Type 0 where
  pub main : Option MainOf
  pub map : List UnitRange

-- what jobs make
pub data Made : Type 0 where
  ShardOf : Shard → Made
  LinkedOf : Linked → Made
  SummaryOf : Summary → Made
  RunOf : List Entry → Made
  TableOf : List Entry → Made
  CacheOf : Cache → Made

-- ---- runs

-- the units of run k
abbrev pub run_of : Subject → ℕ → List (ℕ × UnitHeader)
run_of s k = unwrap_or (slice_get s.runs k) []

-- whether the unit with a number stands in run k
abbrev pub is_in_run : Subject → ℕ → ℕ → Bool
is_in_run s k unit = list_any (λ u. u.0 == unit) (run_of s k)

-- the walks of run k, or the first fault of its entries and strings
unfoldable pub scan_of_run : Subject → ℕ → Result (List Walked) Fault
scan_of_run s k = sections_of s.file >>= λ ss. each (scanned ss) (run_of s k)

-- what the references of run k give, or their first fault
unfoldable pub link_of_run : Subject → ℕ → Result (List LinkOf) Fault
link_of_run s k = program_of s.file >>= λ p. scan_of_run s k >>= λ ws. links_in p ws

-- ---- jobs

-- the first fault that a job meets; Main is drawn once the units and their references have none
abbrev pub fault_of_job : Subject → Job → Option Fault
fault_of_job s (Scan k) = wrong_in (scan_of_run s k)
fault_of_job s (Link k) = wrong_in (link_of_run s k)
fault_of_job s Main = first_fault s.file
fault_of_job s (Name k) = None
fault_of_job s Merge = None
fault_of_job s Write = None

-- main, and the pieces of the ranges of all units
abbrev pub IsSummary : Subject → Summary → Type 0
IsSummary s m = IsOkAnd (built_of s.file) (λ b. (m.main ≡ main_of b.program b.links) × IsPieces b.ranges m.map)

-- what a job makes where it meets no fault
abbrev pub Makes : Subject → Job → Made → Type 0
Makes s (Scan k) (ShardOf shard) = IsOkAnd (sections_of s.file) (λ ss. IsOkAnd (scan_of_run s k) (StandsFor ss shard))
Makes s (Link k) (LinkedOf linked) = IsOkAnd (program_of s.file) (λ p. IsOkAnd (link_of_run s k) (IsLinked p linked))
Makes s Main (SummaryOf m) = IsSummary s m
Makes s (Name k) (RunOf es) = IsOkAnd (built_of s.file) (λ b. es ≡ filter (λ e. is_in_run s k e.unit) (entries_in b))
Makes s Merge (TableOf es) = IsOkAnd (built_of s.file) (λ b. es ≡ entries_in b)
Makes s Write (CacheOf c) = IsOkAnd (built_of s.file) (λ b. c ≡ cache_in s.cache b)
Makes s job made = ⊥

-- what an output is for a job: its first fault, or what it makes; want of memory is free
abbrev pub IsOutputOf : Subject → Job → Output Made → Type 0
IsOutputOf s job Memory = ⊤
IsOutputOf s job (Faulty f) = fault_of_job s job ≡ Some f
IsOutputOf s job (Gave made) = (fault_of_job s job ≡ None) × Makes s job made

-- the output of each Finish is one for its job
abbrev pub AllMeet : {Query : Type 0} → Subject → List (Event Made Query) → Type 0
AllMeet s [] = ⊤
AllMeet s (Draw actor ∷ es) = AllMeet s es
AllMeet s (Finish actor job output refused ∷ es) = IsOutputOf s job output × AllMeet s es
AllMeet s (Look actor query ∷ es) = AllMeet s es

-- What holds of a build.
use Rattle.std.specs.Prelude.{◌≡◌, ◌+◌, ◌<◌, ℕ, true, false, List, [], ◌∷◌, ◌++◌, length, map, filter_map, slice_get, option_map, is_none}
use Rattle.std.specs.Arc.{arc_value}
use Rattle.std.specs.List.{enumerate_from, list_any}
use Rattle.ix_base.specs.declared.fault.Fault.{Fault}
use Rattle.index_model.specs.declared.job.Job.TheVariants.{Scan, Link}
use Rattle.index_model.specs.Machine.{State, Row, Refused, plan_for, jobs_at, is_going, opened}
use Rattle.index_model.specs.MachineEvents.{next_job, made_in}
use Rattle.index_model.specs.Outputs.{Subject, Made}
use Rattle.index_model.specs.Parts.{parts}
use Rattle.stage_core.specs.declared.stock.Stock.{Stock}
use Rattle.stage_core.specs.declared.stock.Stock.TheVariants as stocks
use Rattle.stage_core.specs.declared.build.Build.{Build}
use Rattle.stage_core.specs.Cut.{cut, units_in}
use Rattle.stage_core.specs.Inputs.{shard_in, linked_in, made_by_kind, handed}
use Rattle.stage_core.specs.Outputs.{parts_seen}
use Rattle.stage_core.specs.Tasks.{task_seen}

-- ---- what no event changes

-- the file, so many runs of its units, and the kind of the index
abbrev pub subject_of : Build → Subject
subject_of b = record { file = b.file.now; runs = cut b.runs (enumerate_from 0 (units_in b.file.now)); cache = b.cache }

-- the plan of the runs
abbrev pub plan_of_build : Build → List Row
plan_of_build b = plan_for b.runs

-- both builds have the same file, runs and kind of index
pub record SameSubject (a b : Build) : Type 0 where
  pub file : b.file ≡ a.file
  pub runs : b.runs ≡ a.runs
  pub cache : b.cache ≡ a.cache

-- ---- what is kept for later kinds

-- what the closed kinds made for those to come
abbrev pub IsStock : State Made → Stock → Type 0
IsStock t stocks.Scan = length t.closed ≡ 0
IsStock t (stocks.Link shards) = (length t.closed ≡ 1) × (map arc_value (arc_value shards).items ≡ filter_map shard_in (made_by_kind t (Scan 0)))
IsStock t (stocks.Main shards linked) =
    (length t.closed ≡ 2) × (map arc_value (arc_value shards).items ≡ filter_map shard_in (made_by_kind t (Scan 0)))
    × (map arc_value (arc_value linked).items ≡ filter_map linked_in (made_by_kind t (Link 0)))
IsStock t stocks.Name = length t.closed ≡ 3
IsStock t stocks.Merge = length t.closed ≡ 4
IsStock t stocks.Write = length t.closed ≡ 5
IsStock t stocks.Nothing = length t.closed ≡ 6

-- the state once some more jobs are drawn
abbrev pub drawn_on : State Made → ℕ → State Made
drawn_on t more = record t { drawn = t.drawn + more }

-- the parts of a build fit each other
pub record Fits (b : Build) : Type 0 where
  -- the tasks that are left are those of the jobs that aren't drawn
  pub tasks : (i : ℕ) → option_map task_seen (slice_get b.tasks.items i) ≡ option_map (handed (subject_of b) b.progress) (next_job (plan_of_build b) (drawn_on b.progress i))
  pub parts : parts_seen b.parts ≡ parts b.progress
  -- while jobs go on there is a slot for each
  pub slots : is_going b.progress.end ≡ true → length b.progress.brought ≡ jobs_at (plan_of_build b) (length b.progress.closed)
  -- a file is refused only where all jobs of the open kind are finished
  pub whole : (f : Fault) → b.progress.end ≡ Refused f → list_any is_none b.progress.brought ≡ false
  pub stock : IsStock b.progress b.stock

-- the open kind has jobs, and they go on
pub record IsOpen (b : Build) : Type 0 where
  pub fits : Fits b
  pub going : is_going b.progress.end ≡ true
  pub some : 0 < length b.progress.brought

-- the kind of the first build closes, and the next one is open in the second
pub record OpensNext (a b : Build) : Type 0 where
  pub state : b.progress ≡ opened (plan_of_build a) (a.progress.closed ++ filter_map made_in a.progress.brought ∷ [])
  pub fits : Fits b
  pub same : SameSubject a b

-- What contracts see of tasks.
use Rattle.std.specs.Prelude.{◌≡◌, ◌<◌, ℕ, List, length, map, slice_get, Some, option_map}
use Rattle.std.specs.Arc.{arc_value}
use Rattle.index_model.specs.declared.job.Job.TheVariants.{Scan, Link, Main, Name, Merge, Write}
use Rattle.stage_core.specs.declared.task.Task.{Task}
use Rattle.stage_core.specs.declared.task.Task.TheVariants as tasks
use Rattle.stage_core.specs.Outputs.{parts_seen}
use Rattle.stage_core.specs.Inputs.{UnitsOf, ScansOf, LinksOf, RunsOf, PublishedOf, Handed}

-- the job and what it is given
abbrev pub task_seen : Task → Handed
task_seen (tasks.Scan run first count) = record { job = Scan run; given = UnitsOf first count }
task_seen (tasks.Link run shards) = record { job = Link run; given = ScansOf (map arc_value (arc_value shards).items) }
task_seen (tasks.Main shards linked) = record { job = Main; given = LinksOf (map arc_value (arc_value shards).items) (map arc_value (arc_value linked).items) }
task_seen (tasks.Name run shards linked) = record { job = Name run; given = LinksOf (map arc_value (arc_value shards).items) (map arc_value (arc_value linked).items) }
task_seen (tasks.Merge runs) = record { job = Merge; given = RunsOf runs.items }
task_seen (tasks.Write published kind) = record { job = Write; given = PublishedOf (parts_seen published) kind }

-- so many tasks, each as the function of its number says
pub record AreTasks (tasks : List Task) (count : ℕ) (f : ℕ → Handed) : Type 0 where
  pub all : length tasks ≡ count
  pub each : (i : ℕ) → i < count → option_map task_seen (slice_get tasks i) ≡ Some (f i)

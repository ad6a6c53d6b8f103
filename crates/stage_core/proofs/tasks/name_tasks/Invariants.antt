use Rattle.std.proofs.Common.{◌≡◌, ◌≤◌, map, deque_len, deque_capacity}
use Rattle.std.specs.Arc.{arc_value}
use Rattle.index_model.specs.declared.job.Job.TheVariants.{Name}
use Rattle.stage_core.specs.Inputs.{LinksOf}
use Rattle.stage_core.specs.Tasks.{AreTasks}
use Rattle.stage_core.proofs.tasks.name_tasks.Given as goal

abbrev pub invariant-loop-run : goal.invariant-loop-run
invariant-loop-run l = record {
  so_far : AreTasks l.tasks.items l.run (λ k. record { job = Name k; given = LinksOf (map arc_value (arc_value l.shards).items) (map arc_value (arc_value l.linked).items) });
  size : deque_len l.tasks ≡ l.run;
  room : l.runs ≤ deque_capacity l.tasks;
}

use Rattle.std.proofs.Common.{◌≡◌, ◌≤◌, ℕ, List, length}
use Rattle.index_model.specs.declared.unit.Unit.{Unit as UnitHeader}
use Rattle.stage_core.proofs.CutLaws.{CutSoFar}
use Rattle.stage_core.proofs.tasks.scan_tasks.Given as goal

abbrev pub invariant-loop-run : goal.invariant-loop-run
invariant-loop-run l = record {
  few : l.first ≤ l.units;
  so_far : (us : List (ℕ × UnitHeader)) → length us ≡ l.units → CutSoFar us l.runs l.run l.first l.tasks.items;
}

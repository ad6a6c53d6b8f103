use Rattle.std.proofs.Common.{◌≡◌, ◌-◌, ◌≤◌, length, Some}
use Rattle.ix_base.specs.declared.limits.TheConstants.{MAX_PATH_STEPS}
use Rattle.parent_resolve.specs.Paths.{AreBefore, ForAround}
use Rattle.parent_resolve.proofs.Outwards.{Reached}
use Rattle.parent_resolve.proofs.paths.Paths.follow_path.Given as goal

abbrev pub invariant-loop-scope : goal.invariant-loop-scope
invariant-loop-scope l = record {
  kept : l.self ≡ l.fn.self;
  within : l.scope.steps ≤ MAX_PATH_STEPS;
  before : AreBefore l.fn.self l.passed.items (Some l.around);
  count : length l.passed.items ≡ l.scope.steps;
  reached : ForAround l.fn.self l.fn.parent (λ p d. Reached p d l.scope l.around);
}

abbrev pub decreases-loop-scope : goal.decreases-loop-scope
decreases-loop-scope l = MAX_PATH_STEPS - l.scope.steps

use Rattle.std.proofs.Common.{[], refl, ◌∙◌}
use Rattle.ix_base.specs.declared.limits.TheConstants.{MAX_PATH_STEPS}
use Rattle.index_model.specs.Names.{scope_path}
use Rattle.parent_resolve.specs.declared.scope.Scope.{Scope}
use Rattle.parent_resolve.specs.Scopes.{IsScope}
use Rattle.parent_resolve.proofs.Outwards.{gives_ok, no_parent, none_passed}
use Rattle.parent_resolve.proofs.PathSteps.{at_root}
use Rattle.parent_resolve.proofs.paths.Paths.around.Goals as goal

pub returns-in-Some-clause-value : goal.returns-in-Some-clause-value
returns-in-Some-clause-value c p file d dc place = c.around_parent.ensures.value p file d dc (place ∙ c.in-Some.is)

pub returns-in-None-clause-value : goal.returns-in-None-clause-value
returns-in-None-clause-value c p file d dc place =
    let s : Scope = record { steps = 0; length = 0 } in
    gives_ok (IsScope s) c.args.at (scope_path p d) [] (at_root p MAX_PATH_STEPS d (no_parent d (place ∙ c.in-None.is))) (none_passed s refl refl)

use Rattle.std.proofs.Common.{[], refl, ◌∙◌}
use Rattle.ix_base.specs.declared.limits.TheConstants.{MAX_PATH_STEPS}
use Rattle.index_model.specs.Names.{scope_path}
use Rattle.parent_resolve.proofs.ComponentLaws.{gives_texts}
use Rattle.parent_resolve.proofs.Outwards.{no_parent}
use Rattle.parent_resolve.proofs.PathSteps.{at_root}
use Rattle.parent_resolve.proofs.references.References.components.Goals as goal

pub returns-in-Some-clause-value : goal.returns-in-Some-clause-value
returns-in-Some-clause-value c p file d dc place = c.components_from.ensures.value p file d dc (place ∙ c.in-Some.is)

pub returns-in-None-clause-value : goal.returns-in-None-clause-value
returns-in-None-clause-value c p file d dc place =
    gives_texts _ c.args.at (scope_path p d) [] (at_root p MAX_PATH_STEPS d (no_parent d (place ∙ c.in-None.is))) [] c.new.ensures.items refl

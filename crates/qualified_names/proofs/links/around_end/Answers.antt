use Rattle.std.proofs.Common.{[], ap, ◌∙◌}
use Rattle.name_forms.specs.Scoped.{parts, joined}
use Rattle.qualified_names.proofs.AroundLaws.{front_around}
use Rattle.qualified_names.proofs.links.around_end.Goals as goal

pub returns-clause-value : goal.returns-clause-value
returns-clause-value c =
    front_around c.args.references.now c.args.entry.now.around c.in_ok-components.components.items c.in_ok-components.ensures.value c.in_ok-front.front.items
    (c.in_ok-front.ensures ∙ ap (λ ts. joined (parts ts) []) c.as_slice.ensures.value)

use Rattle.std.proofs.Common.{ap, sym, ◌∙◌}
use Rattle.std.specs.Prelude.{bytes_eq, is_some}
use Rattle.std.specs.List.{list_any}
use Rattle.elf_add.specs.Adders.{has_section}
use Rattle.elf_add.proofs.Adding.{any_of_views, left_holds, right_decides}
use Rattle.elf_add.proofs.adder.Adder.has.Goals as goal

pub returns-then-is_some : goal.returns-then-is_some
unfolding has_section
returns-then-is_some c = rw (← c.self.view_is) (left_holds c.is_some.result _ _ (c.is_some.ensures ∙ ap is_some c.index_of.ensures) c.if-is_some.true)

pub returns-else-is_some : goal.returns-else-is_some
unfolding has_section
returns-else-is_some c =
    rw (← c.self.view_is) (right_decides c.is_some.result c.has_name.result _ _ (c.is_some.ensures ∙ ap is_some c.index_of.ensures) c.if-is_some.false
    (c.has_name.ensures ∙ ap (list_any (λ s. bytes_eq s.name.now c.args.name.now)) c.deref.ensures.value ∙ sym (any_of_views c.args.name.now c.self.inside.added.items)))

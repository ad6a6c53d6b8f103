use Rattle.std.proofs.Common.{Bool, ◌||◌, eqb, ap, sym, ◌∙◌}
use Rattle.std.specs.Int.RustNames.{count_ones}
use Rattle.std.proofs.lemmas.Bool.{eq-eqb, ne_eqb}
use Rattle.gdbindex_read.proofs.Powers.{table_size_is}
use Rattle.gdbindex_read.proofs.slots.is_table_size.Goals as goal

pub returns-then-slots-eq0 : goal.returns-then-slots-eq0
returns-then-slots-eq0 c = eq-eqb c.args.slots 0 c.if-slots-eq0.true ∙ sym (table_size_is c.args.slots c.requires ∙ ap (λ (b : Bool). b || eqb (count_ones c.args.slots) 1) (eq-eqb c.args.slots 0 c.if-slots-eq0.true))

pub returns-else-slots-eq0 : goal.returns-else-slots-eq0
returns-else-slots-eq0 c = c.is_power_of_two.ensures ∙ sym (table_size_is c.args.slots c.requires ∙ ap (λ (b : Bool). b || eqb (count_ones c.args.slots) 1) (ne_eqb c.args.slots 0 c.if-slots-eq0.false))

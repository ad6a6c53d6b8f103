use Rattle.std.proofs.Common.{ℕ, is_some, Option, option_map, ap, sym}
use Rattle.index_model.specs.Forms.{Value}
use Rattle.entry_scan.specs.Values.{values_at, value_read}
use Rattle.entry_scan.proofs.MarkLaws.{not_there}
use Rattle.entry_scan.proofs.item.Item.has.Goals as goal

pub returns-then-not-may_have : goal.returns-then-not-may_have
returns-then-not-may_have c =
    let written = c.self.inside.values in
    let none = not_there (value_read (values_at written.format written.specs.now written.cursor)) c.self.inside.marks c.args.attribute c.self.invariant.3 (λ has. let is = c.may_have.ensures.1 has in let not = c.if-not-may_have.true in cc) in
    rw (← c.self.view_is) (sym (ap (λ (v : Option (ℕ × Value)). is_some (option_map (λ (v : ℕ × Value). v.1) v)) none))

pub returns-then-is_there : goal.returns-then-is_there
returns-then-is_there c = rw (← c.self.view_is) (sym (c.is_there.ensures c.if-is_there.true))

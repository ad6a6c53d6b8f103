use Rattle.std.proofs.Common.{ℕ, Option, option_map, ap}
use Rattle.index_model.specs.Forms.{Value}
use Rattle.entry_scan.specs.Values.{values_at, value_read}
use Rattle.entry_scan.proofs.MarkLaws.{not_there}
use Rattle.entry_scan.proofs.item.Item.lacks.Goals as goal

pub returns-then-not-may_have : goal.returns-then-not-may_have
returns-then-not-may_have c e =
    let written = c.self.inside.values in
    let none = not_there (value_read (values_at written.format written.specs.now written.cursor)) c.self.inside.marks c.args.attribute c.self.invariant.3 (λ has. let is = c.may_have.ensures.1 has in let not = c.if-not-may_have.true in cc) in
    rw (← c.self.view_is) (ap (λ (v : Option (ℕ × Value)). option_map (λ (v : ℕ × Value). v.1) v) none)

use Rattle.std.proofs.Common.{List, Vec, Global, sym, ap, subst, ◌∙◌}
use Rattle.std.specs.Prelude.{find}
use Rattle.std.specs.List.Sorted.{IsNonDecreasingBy}
use Rattle.gdb_items.specs.declared.item.UnitItem.{UnitItem}
use Rattle.gdb_items.proofs.PlaceLaws.{stands}
use Rattle.gdb_items.proofs.read_unit.ReadUnit.at.Goals as goal

pub returns : goal.returns
returns c rise =
    let same = c.as_slice.ensures.value ∙ ap (λ (v : Vec UnitItem Global). v.items) c.deref.ensures in
    c.item_at.ensures (subst (λ (is : List UnitItem). IsNonDecreasingBy (λ i. i.offset) is) (sym same) rise) ∙ ap (λ (is : List UnitItem). find (stands c.args.offset) is) same

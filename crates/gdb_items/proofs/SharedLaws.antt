-- What was read of a unit, held once more.
use Rattle.std.proofs.Common.{◌≡◌, ℕ, List, Result, Ok, Err, sym, subst}
use Rattle.std.specs.Prelude.{IfOk}
use Rattle.gdb_items.specs.declared.item.UnitItem.{UnitItem}
use Rattle.gdb_items.specs.declared.read_unit.ReadUnit.{ReadUnit}
use Rattle.gdb_items.specs.declared.which.Which.{Which}
use Rattle.gdb_items.specs.Files.{IsReadOf}
use Rattle.gdb_items.specs.Items.{AreItemsOf}
use Rattle.gdb_items.specs.Read.{items_in}

-- it is what was read of the unit
pub shared_is_read : {E : Type 0} (f : List ℕ) (unit : ℕ) (read : ReadUnit) (r : Result ReadUnit E) → IsReadOf f unit read → IfOk r (λ x. x.which ≡ read.which) → IfOk r (λ x. items_in x ≡ items_in read) → IfOk r (IsReadOf f unit)
shared_is_read f unit read (Ok x) own which items =
    subst (λ (is : List UnitItem). AreItemsOf f unit x.which is) (sym items) (subst (λ (w : Which). AreItemsOf f unit w (items_in read)) (sym which) own)
shared_is_read f unit read (Err e) own which items = tt

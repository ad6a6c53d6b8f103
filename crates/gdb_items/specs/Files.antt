-- The items of a file by their joint offsets.
use Rattle.std.specs.Prelude.{◌≡◌, ℕ, nat_eq, List, Option, Some, None, ⊤}
use Rattle.indexmap.specs.IndexMap.{IndexMap, get}
use Rattle.index_model.specs.Program.{Located}
use Rattle.index_model.specs.Sections.{Section}
use Rattle.gdb_items.specs.declared.read_unit.ReadUnit.{ReadUnit}
use Rattle.gdb_items.specs.declared.item.UnitItem.{UnitItem}
use Rattle.gdb_items.specs.Items.{AreItemsOf, IsItemOf}
use Rattle.gdb_items.specs.Read.{items_in}

-- the item is that of the file, or there is neither
abbrev pub IsItemIn : List Section → Option UnitItem → Option Located → Type 0
IsItemIn ss None None = ⊤
IsItemIn ss None (Some d) = ⊥
IsItemIn ss (Some i) None = ⊥
IsItemIn ss (Some i) (Some d) = IsItemOf ss i d

-- what was read is what is kept of the unit with the number
abbrev pub IsReadOf : List ℕ → ℕ → ReadUnit → Type 0
IsReadOf file unit read = AreItemsOf file unit read.which (items_in read)

-- so is what was read of each unit
abbrev pub AreUnitsOf : {S : Type 0} → List ℕ → IndexMap ℕ ReadUnit S → Type 0
AreUnitsOf file known = (unit : ℕ) (read : ReadUnit) → get nat_eq known unit ≡ Some read → IsReadOf file unit read

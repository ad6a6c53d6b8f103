-- What was read of a unit.
use Rattle.std.specs.Prelude.{List}
use Rattle.std.specs.Arc.{arc_value}
use Rattle.gdb_items.specs.declared.item.UnitItem.{UnitItem}
use Rattle.gdb_items.specs.declared.read_unit.ReadUnit.{ReadUnit}

-- the items that were read
abbrev pub items_in : ReadUnit → List UnitItem
items_in read = (arc_value read.items).items

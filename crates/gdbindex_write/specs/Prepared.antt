-- What stands before vectors are made and bytes are written.
use Rattle.std.specs.Prelude.{◌≡◌, ℕ, List, length, map, Option}
use Rattle.index_model.specs.declared.answer.Main.{Main}
use Rattle.index_model.specs.declared.entry.Entry.{Entry}
use Rattle.index_model.specs.declared.range.UnitRange.{UnitRange}
use Rattle.index_model.specs.declared.unit.Unit.{Unit as UnitHeader}
use Rattle.index_model.specs.GdbIndex.{index_number}
use Rattle.index_model.specs.Layout.{below}
use Rattle.gdbindex_write.specs.declared.symbols.Symbols.{Symbols}
use Rattle.gdbindex_write.specs.Symbols.{AreSymbolsOf}
use Rattle.gdbindex_write.specs.Writable.{IsWritable}

-- what can be written, with the numbers of its units and the symbols of its entries
pub record IsPrepared (units : List UnitHeader) (pieces : List UnitRange) (main : Option Main) (version : ℕ) (numbers : List ℕ) (symbols : Symbols) (entries : List Entry) : Type 0 where
  pub writable : IsWritable units pieces main entries version
  pub numbers_are : numbers ≡ map (index_number units) (below (length units))
  pub symbols_are : AreSymbolsOf numbers entries symbols

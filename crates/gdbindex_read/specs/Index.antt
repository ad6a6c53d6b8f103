-- The whole index.
use Rattle.std.specs.Prelude.{◌≡◌, ◌<◌, ◌^◌, true, ℕ, List, Option, Some, None, option_map, Ok, Err}
use Rattle.std.specs.List.{enumerate_from}
use Rattle.ix_base.specs.declared.fault.Fault.{Fault}
use Rattle.index_model.specs.GdbIndexRead.{GdbIndex as Meaning, gdb_index, is_table_size, reached}
use Rattle.index_model.specs.Meaning.{each, wrong_in}
use Rattle.gdbindex_read.specs.declared.index.GdbIndex.TheInside.{Inside}
use Rattle.gdbindex_read.specs.declared.parts.Parts.{Parts}
use Rattle.gdbindex_read.specs.Addresses.{addresses_seen}
use Rattle.gdbindex_read.specs.Slots.{slot_count, slots_seen}
use Rattle.gdbindex_read.specs.Shortcut.{shortcut_seen}

-- what look-ups need of the index, by its parts
abbrev pub parts_seen : Parts → Meaning
parts_seen p = record { addresses = addresses_seen p.addresses; slots = slots_seen p.symbols; main = option_map shortcut_seen p.main }

-- what look-ups need of the index
abbrev pub index_seen : Inside → Meaning
index_seen i = parts_seen i.parts

-- some bytes without a fault mean this
abbrev pub IsAnIndex : Meaning → Type 0
IsAnIndex index = (bytes : List ℕ) × (gdb_index bytes ≡ Ok index)

-- the first fault of the paths of names, if they have one
abbrev pub lost_in : Parts → Option Fault
lost_in p = wrong_in (each (reached (slots_seen p.symbols)) (enumerate_from 0 (slots_seen p.symbols)))

-- the parts are those of the index in these bytes, if the paths of its names have no fault, and else the first fault is one of paths
pub record ArePartsOf (bytes : List ℕ) (p : Parts) : Type 0 where
  pub size : is_table_size (slot_count p.symbols) ≡ true
  pub few : slot_count p.symbols < 2 ^ 32
  pub lost : (fault : Fault) → Some fault ≡ lost_in p → gdb_index bytes ≡ Err fault
  pub opened : None ≡ lost_in p → gdb_index bytes ≡ Ok (parts_seen p)

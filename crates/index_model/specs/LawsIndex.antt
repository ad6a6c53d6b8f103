-- The laws of pieces, of slots and of the path, as statements.
use Rattle.std.specs.Prelude.{◌≡◌, ◌↔◌, ◌<◌, ◌^◌, ℕ, List, [], length, Contains, Ok}
use Rattle.index_model.specs.declared.range.UnitRange.{UnitRange}
use Rattle.index_model.specs.Ranges.{unit_at}
use Rattle.index_model.specs.Pieces.{AreApart, IsMaximal, IsPieces, pieces}
use Rattle.index_model.specs.Hashes.{path}
use Rattle.index_model.specs.GdbSlots.{slot_count, slots_of, ArePlaced, AreOwn}
use Rattle.index_model.specs.GdbIndexRead.{GdbIndex, gdb_index, gdb_index_hits}
use Rattle.index_model.specs.GdbPath.{hits_by_path}

-- the pieces ascend and have the same unit at each address as the ranges
abbrev pub PiecesHaveTheUnits : Type 0
PiecesHaveTheUnits = (ranges : List UnitRange) → IsPieces ranges (pieces ranges)

-- they are the maximal ranges in which one unit is the unit at the address, and there are no others
abbrev pub PiecesAreMaximal : Type 0
PiecesAreMaximal = (ranges : List UnitRange) (p : UnitRange) → Contains (pieces ranges) p ↔ IsMaximal ranges p

-- where the unit at each address is the same, the pieces are the same
abbrev pub NoOtherPieces : Type 0
NoOtherPieces = (ps qs : List UnitRange) → AreApart ps → AreApart qs → ((a : ℕ) → unit_at ps a ≡ unit_at qs a) → ps ≡ qs

-- each slot of a table of 2 ^ k slots is among the first 2 ^ k places of every path
abbrev pub PathHasEachSlot : Type 0
PathHasEachSlot = (k : ℕ) (name : List ℕ) (slot : ℕ) → slot < 2 ^ k → Contains (path (2 ^ k) name) slot

-- each name of an index has the first slot on its path that no name before it has
abbrev pub EachNameIsPlaced : Type 0
EachNameIsPlaced = (names : List (List ℕ)) → length names < 2 ^ 60 → ArePlaced (slot_count (length names)) [] names (slots_of names)

-- it is a slot of the table, and no other name has it
abbrev pub EachNameHasItsSlot : Type 0
EachNameHasItsSlot = (names : List (List ℕ)) → length names < 2 ^ 60 → AreOwn (slot_count (length names)) [] (slots_of names)

-- in an index without a fault the path of a name leads to all that all slots together have of the name
abbrev pub PathFindsAll : Type 0
PathFindsAll = (bytes : List ℕ) (index : GdbIndex) (name : List ℕ) → gdb_index bytes ≡ Ok index → gdb_index_hits index name ≡ hits_by_path index name

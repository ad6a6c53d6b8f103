-- What is one beyond a limit and what is just within it: depth, number of units, lengths of names. Files that reach the limits are too large to be computed
-- whole, so the definitions that test them are asked at the limit itself.
use Rattle.std.specs.Prelude.{◌≡◌, ℕ, pos, Bool, true, false, List, [], ◌∷◌, length, drop, Option, Some, None, Ok, Err}
use Rattle.ix_base.specs.declared.fault.Fault.{Fault}
use Rattle.ix_base.specs.declared.code.TheConstants.{DEPTH}
use Rattle.ix_base.specs.Reading.{Input, before_zero}
use Rattle.index_model.specs.declared.unit.Part.TheVariants.{Info}
use Rattle.index_model.specs.declared.unit.Unit.{Unit as UnitHeader}
use Rattle.index_model.specs.declared.unit.UnitSort.TheVariants.{Compile}
use Rattle.index_model.specs.Meaning.{fault, wrong_in}
use Rattle.index_model.specs.Tiling.{tiles}
use Rattle.index_model.specs.Units.{next_unit}
use Rattle.index_model.specs.Abbreviations.{Abbrev}
use Rattle.index_model.specs.Walk.{Levels, entry_at, token_or_fault}
use Rattle.index_model.specs.Sections.{Section}
use Rattle.index_model.specs.Forms.{Inline}
use Rattle.index_model.specs.Strings.{unless_empty, string_at, text_of}
use Rattle.index_model.specs.Links.{is_within_limit}

-- ---- depth

-- below the root, in so many open levels
abbrev pub within : ℕ → Levels
within depth = record { root = true; depth = depth }

-- An entry in 1,025 levels is a fault, whatever it is.
abbrev pub NoEntryIsDeeper : Type 0
NoEntryIsDeeper = (u : UnitHeader) (abbrevs : List Abbrev) (root : Bool) (at : ℕ) (a : Abbrev) (i : Input) →
    entry_at u abbrevs (record { root = root; depth = 1025 }) at a i ≡ Err DEPTH

-- a version 5 unit of namespaces named `n`, one in the other: the root takes 9 bytes from 0C on, and each namespace 3, so that the one of depth d stands at 12 + 3 d
abbrev pub namespaces : UnitHeader
namespaces = record { start = 0; part = Info; length = 4120; version = 5; wide = false; sort = Compile; «abbrev» = 0; body = 12; signature = 0; type_offset = 0 }

-- a namespace with children and a name in a string
abbrev pub namespace_table : List Abbrev
namespace_table = record { code = 2; tag = 0x39; children = true; specs = record { attribute = 3; form = 8; constant = pos 0 } ∷ [] } ∷ []

-- the first fault in the namespace at a place, in so many open levels
abbrev pub namespace_fault : ℕ → ℕ → Option Fault
namespace_fault depth at = wrong_in (token_or_fault namespaces namespace_table (within depth) (record { at = at; rest = 2 ∷ 110 ∷ 0 ∷ [] }))

-- The one of depth 1,024 is read, and the next is a fault at its place.
abbrev pub NamespacesEnd : Type 0
NamespacesEnd = record {
  last : namespace_fault 1024 0xC10 ≡ None;
  beyond : namespace_fault 1025 0xC13 ≡ Some (fault 21 0xC13);
}

-- ---- the number of units

-- a version 5 unit of 13 bytes without entries, and the same of version 6
unfoldable pub one_unit : List ℕ
one_unit = 9 ∷ 0 ∷ 0 ∷ 0 ∷ 5 ∷ 0 ∷ 1 ∷ 8 ∷ 0 ∷ 0 ∷ 0 ∷ 0 ∷ 0 ∷ []

unfoldable pub unknown_unit : List ℕ
unknown_unit = 9 ∷ 0 ∷ 0 ∷ 0 ∷ 6 ∷ 0 ∷ 1 ∷ 8 ∷ 0 ∷ 0 ∷ 0 ∷ 0 ∷ 0 ∷ []

unfoldable pub three_units : List ℕ
three_units =
    9 ∷ 0 ∷ 0 ∷ 0 ∷ 5 ∷ 0 ∷ 1 ∷ 8 ∷ 0 ∷ 0 ∷ 0 ∷ 0 ∷ 0 ∷
    9 ∷ 0 ∷ 0 ∷ 0 ∷ 5 ∷ 0 ∷ 1 ∷ 8 ∷ 0 ∷ 0 ∷ 0 ∷ 0 ∷ 0 ∷
    9 ∷ 0 ∷ 0 ∷ 0 ∷ 5 ∷ 0 ∷ 1 ∷ 8 ∷ 0 ∷ 0 ∷ 0 ∷ 0 ∷ 0 ∷ []

-- the first fault of units that tile the bytes, the first of them with this number
abbrev pub unit_fault_from : ℕ → List ℕ → Option Fault
unit_fault_from number bytes = wrong_in (tiles (next_unit Info 0) number (record { at = 0; rest = bytes }))

-- Units have the numbers 0 to 16,777,214. One more is a fault at its place, which comes after the faults of its own header.
abbrev pub UnitsEnd : Type 0
UnitsEnd = record {
  last : unit_fault_from 16777214 one_unit ≡ None;
  beyond : unit_fault_from 16777215 one_unit ≡ Some (fault 22 0);
  second : unit_fault_from 16777214 three_units ≡ Some (fault 22 13);
  third : unit_fault_from 16777213 three_units ≡ Some (fault 22 26);
  header_first : unit_fault_from 16777215 unknown_unit ≡ Some (fault 7 0);
}

-- ---- lengths of names

-- A string within the unit of 1,048,576 bytes is a name, and one of 1,048,577 bytes a fault.
abbrev pub InlineStringsEnd : Type 0
InlineStringsEnd = record {
  last : (ss : List Section) (base : Option ℕ) (wide : Bool) (s : List ℕ) → length s ≡ 1048576 → text_of ss base wide (Inline s) ≡ Ok (unless_empty s);
  beyond : (ss : List Section) (base : Option ℕ) (wide : Bool) (s : List ℕ) → length s ≡ 1048577 → text_of ss base wide (Inline s) ≡ Err 24;
}

-- The same for a string in a section. One that no zero ends isn't a string, however long it is.
abbrev pub StringsEnd : Type 0
StringsEnd = record {
  last : (bytes s : List ℕ) (place : ℕ) → before_zero (drop place bytes) ≡ Some s → length s ≡ 1048576 → string_at bytes place ≡ Ok (unless_empty s);
  beyond : (bytes s : List ℕ) (place : ℕ) → before_zero (drop place bytes) ≡ Some s → length s ≡ 1048577 → string_at bytes place ≡ Err 24;
  endless : (bytes : List ℕ) (place : ℕ) → before_zero (drop place bytes) ≡ None → string_at bytes place ≡ Err 13;
}

-- A qualified name has at most 16,777,216 bytes.
abbrev pub QualifiedNamesEnd : Type 0
QualifiedNamesEnd = record {
  last : (name : List ℕ) → length name ≡ 16777216 → is_within_limit (Some name) ≡ true;
  beyond : (name : List ℕ) → length name ≡ 16777217 → is_within_limit (Some name) ≡ false;
}

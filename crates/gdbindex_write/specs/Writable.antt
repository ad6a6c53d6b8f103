-- What an index can be written of.
use Rattle.std.specs.Prelude.{◌≡◌, ◌⊎◌, ℕ, ◌+◌, ◌<◌, ◌≤◌, Bool, true, not, ◌&&◌, List, [], ◌∷◌, length, filter, sum_by, All, bytes_eq, Option, Some, None, IsTrue, ⊤}
use Rattle.std.specs.List.{list_any}
use Rattle.ix_base.specs.declared.limits.TheConstants.{MAX_UNITS}
use Rattle.index_model.specs.declared.answer.Main.{Main}
use Rattle.index_model.specs.declared.entry.Entry.{Entry}
use Rattle.index_model.specs.declared.range.UnitRange.{UnitRange}
use Rattle.index_model.specs.declared.unit.Unit.{Unit as UnitHeader}
use Rattle.index_model.specs.Units.{is_types}

-- ---- units

-- the first unit begins at a joint offset, and each other one where the one before it ends
abbrev pub FollowFrom : ℕ → List UnitHeader → Type 0
FollowFrom start [] = ⊤
FollowFrom start (u ∷ us) = (u.start ≡ start) × FollowFrom (start + u.length) us

-- behind a unit of `.debug_types` stand no units of `.debug_info`
abbrev pub InfoFirst : List UnitHeader → Type 0
InfoFirst [] = ⊤
InfoFirst (u ∷ us) = (is_types u.part ≡ true → All (λ v. is_types v.part ≡ true) us) × InfoFirst us

-- how many bytes units have: where the last of them ends, if they follow one another from 0 on
abbrev pub unit_bytes : List UnitHeader → ℕ
unit_bytes units = sum_by (λ u. u.length) units

-- how many bytes the units of `.debug_info` have
abbrev pub info_bytes : List UnitHeader → ℕ
info_bytes units = sum_by (λ u. u.length) (filter (λ u. not (is_types u.part)) units)

-- units in section order, which end below 4,294,967,296
pub record AreUnits (units : List UnitHeader) : Type 0 where
  pub follow : FollowFrom 0 units
  pub info_first : InfoFirst units
  pub few : length units ≤ MAX_UNITS
  pub end : unit_bytes units < 4294967296

-- ---- entries and main

-- the unit of the entry is one of the units
abbrev pub HasUnit : List UnitHeader → Entry → Type 0
HasUnit units e = e.unit < length units

-- whether the entry has this name and isn't a linkage entry
abbrev pub is_plainly_named : List ℕ → Entry → Bool
is_plainly_named name e = not e.linkage && bytes_eq e.name name

-- main has the name of an entry that isn't a linkage entry
abbrev pub IsMainOf : List Entry → Option Main → Type 0
IsMainOf entries (Some main) = IsTrue (list_any (is_plainly_named main.name) entries)
IsMainOf entries None = ⊤

-- ---- the whole

-- Units that follow one another, pieces of their addresses, a main among the entries, entries of the units, and a version
-- that is known.
pub record IsWritable (units : List UnitHeader) (pieces : List UnitRange) (main : Option Main) (entries : List Entry) (version : ℕ) : Type 0 where
  pub units_are : AreUnits units
  pub pieces_are : All (λ p. p.unit < length units) pieces
  pub entries_are : All (HasUnit units) entries
  pub main_is : IsMainOf entries main
  pub version_is : (version ≡ 8) ⊎ (version ≡ 9)

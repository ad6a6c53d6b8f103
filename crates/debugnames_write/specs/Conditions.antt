-- What an index is written of, and when it fits its format.
use Rattle.std.specs.Prelude.{◌≡◌, ℕ, ◌+◌, ◌<◌, ◌≤◌, true, List, [], ◌∷◌, length, All, AllPairs, sum_by, slice_get, IsSomeAnd}
use Rattle.index_model.specs.declared.entry.Entry.{Entry}
use Rattle.index_model.specs.declared.unit.Unit.{Unit as UnitHeader}
use Rattle.index_model.specs.Units.{is_types}
use Rattle.index_model.specs.NameIndex.{name_index_bytes, name_index_strings}

-- the first unit begins at the place, and each other one where the one before it ends
abbrev pub FollowFrom : ℕ → List UnitHeader → Type 0
FollowFrom at [] = Unit {0}
FollowFrom at (u ∷ us) = (u.start ≡ at) × FollowFrom (at + u.length) us

-- the entry's unit is one of these, and the entry lies inside it
abbrev pub IsInside : List UnitHeader → Entry → Type 0
IsInside units e = IsSomeAnd (slice_get units e.unit) (λ u. (u.start ≤ e.offset) × (e.offset < u.start + u.length))

-- The units of a program: they follow one another from joint offset 0, those of `.debug_info` first. There are at most 16,777,215
-- of them, and they end below 4,294,967,296.
pub record AreUnits (units : List UnitHeader) : Type 0 where
  pub follow : FollowFrom 0 units
  pub info_first : AllPairs (λ u v. is_types u.part ≡ true → is_types v.part ≡ true) units
  pub few : length units ≤ 16777215
  pub short : sum_by (λ u. u.length) units < 4294967296

-- the units of a program with its entries, each of which lies inside one of them
pub record AreIndexable (units : List UnitHeader) (entries : List Entry) : Type 0 where
  pub units_are : AreUnits units
  pub inside : All (IsInside units) entries

-- the index has at most 4,294,967,283 bytes, and `.debug_str` with its strings at most 4,294,967,295
pub record Fits (units : List UnitHeader) (old_strings : ℕ) (entries : List Entry) : Type 0 where
  pub names : length (name_index_bytes units old_strings entries) ≤ 4294967283
  pub strings : old_strings + length (name_index_strings units entries) ≤ 4294967295

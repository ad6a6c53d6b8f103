-- Where the items of a unit stand, as gdb comes to them.
use Rattle.std.specs.Prelude.{◌≡◌, ℕ, List, [], Contains, filter, Option, Some, None, Ok, option_map}
use Rattle.index_model.specs.Faults.{program_of}
use Rattle.index_model.specs.Program.{Program, Walked, Located, located, item_with_offset}
use Rattle.gdb_entries.specs.declared.language.LanguageClass.{LanguageClass}
use Rattle.gdb_entries.specs.Owners.{class_read}
use Rattle.gdb_entries.specs.Reached.{is_seen, reach_of}
use Rattle.gdb_entries.specs.Scopes.{around_by, around_in, open_around}
use Rattle.gdb_items.specs.Items.{IsItemOf}
use Rattle.gdb_reach.specs.Standing.{UnitRead}
use Rattle.gdb_scopes.specs.declared.place.Place.{Place}
use Rattle.gdb_scopes.specs.declared.seen.SeenItem.{SeenItem}

-- the joint offset of an item
abbrev pub offset_of : Located → ℕ
offset_of d = d.item.at

-- where an item stands in a unit that is read by this class
abbrev pub place_of : Program → LanguageClass → Located → Place
place_of p class d = record {
  offset = d.item.at;
  is_seen = is_seen p class d;
  around = option_map offset_of (around_in (reach_of p class d));
  open_around = option_map offset_of (open_around p d);
}

-- the item is told, with the open item around it where its unit is read by this class
pub record IsSeenIn (p : Program) (class : Option LanguageClass) (s : SeenItem) (d : Located) : Type 0 where
  pub item : IsItemOf p.sections s.item d
  pub around : s.around ≡ option_map offset_of (around_by p class d)

-- a unit as it is gone over: each item has its offset for a token
abbrev pub unit_read : Program → LanguageClass → Walked → UnitRead
unit_read p class w = record { program = p; class = class; unit = w; token = offset_of }

-- the items of a unit that gdb looks at, where the unit is read by this class
abbrev pub seen_by : Program → Option LanguageClass → Walked → List Located
seen_by p (Some class) w = filter (is_seen p class) (located w)
seen_by p None w = []

-- the items of a unit that gdb looks at
abbrev pub seen_of : Program → Walked → List Located
seen_of p w = seen_by p (class_read p w) w

-- of the unit that has this number in the program that the file means
abbrev pub ForUnit : List ℕ → ℕ → (Program → Walked → Type 0) → Type 0
ForUnit file unit Holds = (p : Program) → program_of file ≡ Ok p → (w : Walked) → Contains p.walks w → w.number ≡ unit → Holds p w

-- of the item that stands at this joint offset in the program that the file means
abbrev pub ForItem : List ℕ → ℕ → (Program → Located → Type 0) → Type 0
ForItem file offset Holds = (p : Program) → program_of file ≡ Ok p → (d : Located) → item_with_offset p offset ≡ Some d → Holds p d

-- the item stands at this joint offset
abbrev pub IsAt : Program → ℕ → Located → Type 0
IsAt p offset d = item_with_offset p offset ≡ Some d

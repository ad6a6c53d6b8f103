-- By which unit and which class gdb reads each unit of a file (gdb/dwarf2/read.c, index_imported_unit, prepare_one_comp_unit).
use Rattle.std.specs.Prelude.{ℕ, List, slice_get, Option, Some, option_map, option_and_then}
use Rattle.index_model.specs.Program.{Walked, Program}
use Rattle.gdb_entries.specs.declared.language.LanguageClass.{LanguageClass}
use Rattle.gdb_entries.specs.Owners.{owner_of, own_class}
use Rattle.gdb_items.specs.declared.by_owner.Reading.{Reading}

-- how gdb reads a unit: as a part of its owner, by the class of the owner's language
unfoldable pub reading_of : Program → Walked → Option Reading
reading_of p w = option_map (λ o. record { owner = o.number; class = own_class p o }) (owner_of p w)

-- ---- by the numbers of the owners, and the own class of each unit

-- as a part of the unit with this number
abbrev pub reading_with : List LanguageClass → ℕ → Option Reading
reading_with classes o = option_map (λ class. record { owner = o; class = class }) (slice_get classes o)

-- as a part of the owner, if there is one
abbrev pub reading_at : List (Option ℕ) → List LanguageClass → ℕ → Option Reading
reading_at owners classes n = option_and_then (reading_with classes) (option_and_then (λ o. o) (slice_get owners n))

-- a unit that owns itself, by its number and its class
abbrev pub own_reading : ℕ × LanguageClass → Option Reading
own_reading u = Some (record { owner = u.0; class = u.1 })

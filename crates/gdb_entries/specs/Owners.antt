-- To which unit gdb gives what stands in a unit, and by which class of language it reads it (gdb/dwarf2/read.c, index_imported_unit, prepare_one_comp_unit).
use Rattle.std.specs.Prelude.{ℕ, zero, suc, Bool, false, not, ◌&&◌, ◌||◌, ◌==◌, if◌then◌else◌, List, [], ◌∷◌, length, filter, find, codes, unwrap_or, Option, Some, None, option_map}
use Rattle.std.specs.List.{list_any}
use Rattle.index_model.specs.Meaning.{value_of}
use Rattle.index_model.specs.Sections.{Section, begins_with}
use Rattle.index_model.specs.Attributes.{read_as, as_text}
use Rattle.index_model.specs.Tags.{partial_unit}
use Rattle.index_model.specs.Walk.{Item}
use Rattle.index_model.specs.Program.{Walked, Program, root_of}
use Rattle.index_model.specs.Strings.{text_in, some_text}
use Rattle.index_model.specs.Languages.{own_language, imports_of}
use Rattle.gdb_entries.specs.declared.language.LanguageClass.{LanguageClass}
use Rattle.gdb_entries.specs.declared.language.LanguageClass.TheVariants.{Go}
use Rattle.gdb_entries.specs.Classes.{class_of}

-- ---- owners

-- whether this is the root of a partial unit
abbrev pub is_partial_root : Option Item → Bool
is_partial_root (Some root) = root.tag == partial_unit
is_partial_root None = false

-- whether the unit is a partial one
abbrev pub is_partial : Walked → Bool
is_partial w = is_partial_root (root_of w)

-- whether the root stands at one of the offsets
abbrev pub stands_at : List ℕ → Option Item → Bool
stands_at offsets (Some root) = list_any (λ o. o == root.at) offsets
stands_at offsets None = false

-- the partial units that the unit imports itself
unfoldable pub imported_by : Program → Walked → List Walked
imported_by p w =
    let offsets = imports_of p.sections w in
    filter (λ v. is_partial v && stands_at offsets (root_of v)) p.walks

-- whether w imports v, itself or through fewer than n partial units
unfoldable pub imports_through : ℕ → Program → Walked → Walked → Bool
imports_through zero p w v = false
imports_through (suc n) p w v = list_any (λ u. u.number == v.number || imports_through n p u v) (imported_by p w)

-- The owner of a unit is the unit itself; of a partial unit it is the first other unit that imports it, itself or through partial units, if there is one.
unfoldable pub owner_of : Program → Walked → Option Walked
owner_of p v =
    let importer = find (λ w. not (is_partial w) && imports_through (length p.walks) p w v) p.walks in
    if is_partial v then importer else Some v

-- ---- classes

-- whether these bytes stand somewhere in the text
unfoldable pub mentions : List ℕ → List ℕ → Bool
mentions bytes [] = false
mentions bytes (b ∷ bs) = begins_with bytes (b ∷ bs) || mentions bytes bs

-- the producer is gcc's compiler of Go, which gives the language of C
abbrev pub is_go_compiler : Option (List ℕ) → Bool
is_go_compiler (Some producer) = mentions (codes "GNU Go ") producer
is_go_compiler None = false

-- the producer that the root names (DWARF 5, 3.1.1)
abbrev pub producer_in : List Section → Walked → Option Item → Option (List ℕ)
producer_in ss w (Some root) = some_text (value_of (text_in ss w (read_as as_text 0x25 root)))
producer_in ss w None = None

-- the class of the unit's own language
unfoldable pub own_class : Program → Walked → LanguageClass
own_class p w = if is_go_compiler (producer_in p.sections w (root_of w)) then Go else class_of (unwrap_or (own_language w) 0)

-- the class by which the unit is read: that of its owner; none, where it isn't read
unfoldable pub class_read : Program → Walked → Option LanguageClass
class_read p w = option_map (own_class p) (owner_of p w)

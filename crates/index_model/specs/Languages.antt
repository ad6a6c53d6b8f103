-- The language of a unit, and its class (DWARF 5, 7.12; imported units: 3.2.5).
use Rattle.std.specs.Option.{option_or}
use Rattle.std.specs.Prelude.{ℕ, ◌&&◌, ◌==◌, if◌then◌else◌, List, [], ◌∷◌, filter, filter_map, find, is_some, unwrap_or, Option, Some, None, option_and_then}
use Rattle.std.specs.List.{list_any}
use Rattle.index_model.specs.declared.rules.Class.{Class}
use Rattle.index_model.specs.declared.rules.Class.TheVariants.{C, Cxx, Ada, Plain}
use Rattle.index_model.specs.Sections.{Section}
use Rattle.index_model.specs.Attributes.{language_value, import_of}
use Rattle.index_model.specs.Tags.{is_one_of, imported_unit, partial_unit}
use Rattle.index_model.specs.Walk.{Item}
use Rattle.index_model.specs.Program.{Walked, Program, items_of, root_of}
use Rattle.index_model.specs.References.{target_of}

-- the language that the unit's root names itself
unfoldable pub own_language : Walked → Option ℕ
own_language w = option_and_then language_value (root_of w)

-- the joint offsets that the unit's imported units name
unfoldable pub imports_of : List Section → Walked → List ℕ
imports_of ss w = filter_map (λ d. option_and_then (target_of ss w) (import_of d)) (filter (λ d. d.tag == imported_unit) (items_of w))

-- the language of the first unit in section order that has one itself and imports the entry at the offset
unfoldable pub importing_language : Program → ℕ → Option ℕ
importing_language p o = option_and_then own_language (find (λ w. is_some (own_language w) && list_any (λ t. t == o) (imports_of p.sections w)) p.walks)

-- the root of a partial unit has the importing unit's language, and another root has none
unfoldable pub language_by_import : Program → Option Item → Option ℕ
language_by_import p None = None
language_by_import p (Some root) =
    let importing = importing_language p root.at in
    if root.tag == partial_unit then importing else None

-- the unit's language: its root's own, else by import, else 0
unfoldable pub language_of : Program → Walked → ℕ
language_of p w = unwrap_or (option_or (own_language w) (language_by_import p (root_of w))) 0

-- the class of a language code
unfoldable pub class_of : ℕ → Class
class_of n =
    if is_one_of (0x01 ∷ 0x02 ∷ 0x0C ∷ 0x1D ∷ 0x2C ∷ []) n then C else
    if is_one_of (0x04 ∷ 0x19 ∷ 0x1A ∷ 0x21 ∷ 0x2A ∷ 0x2B ∷ []) n then Cxx else
    if is_one_of (0x03 ∷ 0x0D ∷ 0x2E ∷ 0x2F ∷ []) n then Ada else Plain

-- the class of the unit's language
abbrev pub class_of_unit : Program → Walked → Class
class_of_unit p w = class_of (language_of p w)

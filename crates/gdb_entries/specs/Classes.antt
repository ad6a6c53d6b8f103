-- The classes of languages by which gdb joins and spells names (gdb/dwarf2/read.c, dwarf_lang_to_enum_language; cooked-index.c, full_name).
use Rattle.std.specs.Prelude.{ℕ, Bool, true, false, if◌then◌else◌, List, [], ◌∷◌, codes, Option, Some, None}
use Rattle.index_model.specs.Tags.{is_one_of}
use Rattle.gdb_entries.specs.declared.language.LanguageClass.{LanguageClass}
use Rattle.gdb_entries.specs.declared.language.LanguageClass.TheVariants.{C, Cxx, Ada, Rust, D, Go, Fortran, Other}
use Rattle.gdb_entries.specs.declared.separator.Separator.{Separator}
use Rattle.gdb_entries.specs.declared.separator.Separator.TheVariants.{Colons, Point, Lines}

-- the class of a language code
unfoldable pub class_of : ℕ → LanguageClass
class_of n =
    if is_one_of (0x01 ∷ 0x02 ∷ 0x0C ∷ 0x12 ∷ 0x1D ∷ 0x2C ∷ 0x3E ∷ []) n then C else
    if is_one_of (0x04 ∷ 0x0B ∷ 0x1A ∷ 0x21 ∷ 0x2A ∷ 0x2B ∷ 0x3A ∷ []) n then Cxx else
    if is_one_of (0x03 ∷ 0x0D ∷ 0x2E ∷ 0x2F ∷ []) n then Ada else
    if is_one_of (0x1C ∷ 0x9000 ∷ []) n then Rust else
    if is_one_of (0x13 ∷ []) n then D else
    if is_one_of (0x16 ∷ []) n then Go else
    if is_one_of (0x07 ∷ 0x08 ∷ 0x0E ∷ 0x22 ∷ 0x23 ∷ 0x2D ∷ 0x3F ∷ []) n then Fortran else Other

-- the class is C
abbrev pub is_c : LanguageClass → Bool
is_c C = true
is_c _ = false

-- the class is C++
abbrev pub is_cxx : LanguageClass → Bool
is_cxx Cxx = true
is_cxx _ = false

-- the class is Ada
abbrev pub is_ada : LanguageClass → Bool
is_ada Ada = true
is_ada _ = false

-- what stands between the components of a name; without it there is no scope before a name
abbrev pub separator_of : LanguageClass → Option Separator
separator_of Cxx = Some Colons
separator_of Rust = Some Colons
separator_of D = Some Point
separator_of Go = Some Point
separator_of Ada = Some Lines
separator_of C = None
separator_of Fortran = None
separator_of Other = None

-- a separator as it stands in a name
abbrev pub separator_text : Separator → List ℕ
separator_text Colons = codes "::"
separator_text Point = codes "."
separator_text Lines = codes "__"

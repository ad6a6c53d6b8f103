-- What a program with sections added is put together from.
use Rattle.std.specs.Prelude.{◌≡◌, ◌+◌, ℕ, Bool, if◌then◌else◌, List, [], ◌∷◌, ◌++◌, length, map, Option, Some, None, option_map, unwrap_or}
use Rattle.index_model.specs.Sections.{Section, names, names_index, section_bytes, section_count}
use Rattle.reach_model.specs.Added.{Addition, debug_str, is_at, new_sections, padded, strings_index}
use Rattle.elf_add.specs.declared.pieces.NewSection.{NewSection}
use Rattle.elf_add.specs.declared.pieces.Grown.{Grown}
use Rattle.elf_add.specs.declared.pieces.Moved.{Moved}
use Rattle.elf_add.specs.declared.parts.AddedProgram.{AddedProgram}
use Rattle.elf_add.specs.Pieces.{grown_bytes, names_of, section_of}

-- whether the names stand in the `.debug_str` that gets the strings
abbrev pub shares_of : AddedProgram → Bool
shares_of p = is_at p.names_index (option_map (λ g. g.index) p.strings)

abbrev pub named_in : Bool → List NewSection → List NewSection
named_in shares sections = if shares then sections else []

-- the bytes of `.debug_str` then, if it gets strings
abbrev pub strings_grown : AddedProgram → Option Grown → List (List ℕ)
strings_grown p None = []
strings_grown p (Some g) = grown_bytes g (named_in (shares_of p) p.added.now) ∷ []

abbrev pub pieces_of_strings : AddedProgram → List (List ℕ)
pieces_of_strings p = strings_grown p p.strings

-- the place of `.debug_str` behind these bytes
abbrev pub strings_moved : AddedProgram → List ℕ → Option Moved
strings_moved p before = option_map (λ g. record { index = g.index; at = length (padded before); size = length (grown_bytes g (named_in (shares_of p) p.added.now)) }) p.strings

-- the bytes of the names' section then
abbrev pub name_piece : AddedProgram → List ℕ
name_piece p = p.names.now ++ names_of p.added.now

abbrev pub pieces_of_names : AddedProgram → List (List ℕ)
pieces_of_names p = if shares_of p then [] else name_piece p ∷ []

-- the place of the names' section behind these bytes
abbrev pub names_moved : AddedProgram → List ℕ → Option Moved
names_moved p before = if shares_of p then None else Some (record { index = p.names_index; at = length (padded before); size = length (name_piece p) })

-- where the first name of an added section begins in the names' section
abbrev pub first_behind : Bool → ℕ → Option Grown → ℕ
first_behind shares n None = n
first_behind shares n (Some g) = if shares then n + length g.more.now else n

abbrev pub first_name_of : AddedProgram → ℕ
first_name_of p = first_behind (shares_of p) (length p.names.now) p.strings

-- the `.debug_str` that gets the strings has these bytes, and gets these
abbrev pub IsStrings : List ℕ → List ℕ → Option Grown → Type 0
IsStrings bytes strings None = Unit {0}
IsStrings bytes strings (Some g) = (g.bytes.now ≡ bytes) × (g.more.now ≡ strings)

-- they are the parts of a file with its sections and what is added
pub record IsPartsOf (p : AddedProgram) (file : List ℕ) (sections : List Section) (addition : Addition) : Type 0 where
  pub whole : p.file.now ≡ file
  pub count : p.count ≡ section_count file
  pub names_index : p.names_index ≡ names_index file
  pub names : p.names.now ≡ names file
  pub strings_index : option_map (λ g. g.index) p.strings ≡ strings_index file sections addition
  pub strings : IsStrings (section_bytes sections debug_str) (unwrap_or addition.strings []) p.strings
  pub added : map section_of p.added.now ≡ new_sections file sections addition

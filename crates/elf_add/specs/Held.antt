-- What an adder holds.
use Rattle.std.specs.Prelude.{◌≡◌, ◌≤◌, ℕ, Bool, not, ◌&&◌, List, length, map, is_some, Option, Ok}
use Rattle.ix_base.specs.declared.limits.TheConstants.{MAX_FILE_BYTES}
use Rattle.index_model.specs.Sections.{Section, index_named, sections_of}
use Rattle.reach_model.specs.Added.{debug_str}
use Rattle.elf_add.specs.declared.pieces.NewSection.{NewSection}
use Rattle.elf_add.specs.Adders.{Adder}
use Rattle.elf_add.specs.Pieces.{section_of}

-- a file, its sections, and what is to be added
abbrev pub adder_with : List ℕ → List Section → List NewSection → Option (List ℕ) → Adder
adder_with file sections added strings = record { file = file; sections = sections; addition = record { sections = map section_of added; strings = strings } }

-- strings are added to a file that has no `.debug_str`
abbrev pub is_alone : Adder → Bool
is_alone a = is_some a.addition.strings && not (is_some (index_named a.sections debug_str))

-- the sections are those of the file, of which there is a table, and few are added
pub record Holds (file : List ℕ) (sections : List Section) (table : List ℕ) (added : List NewSection) : Type 0 where
  pub opened : sections_of file ≡ Ok sections
  pub of_file : table ≡ file
  pub small : length file ≤ MAX_FILE_BYTES
  pub few : length added ≤ 65279

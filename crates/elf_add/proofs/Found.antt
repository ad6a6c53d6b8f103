-- The parts that an adder finds are those of its file with what is added.
use Rattle.std.proofs.Common.{◌≡◌, ℕ, List, [], ◌++◌, map, Option, option_map, unwrap_or, ap, ◌∙◌}
use Rattle.index_model.specs.Sections.{Section, names, names_index, section_bytes, section_count}
use Rattle.reach_model.specs.Added.{debug_str, new_sections, strings_alone, strings_index}
use Rattle.elf_add.specs.declared.pieces.NewSection.{NewSection}
use Rattle.elf_add.specs.declared.parts.AddedProgram.{AddedProgram}
use Rattle.elf_add.specs.Adders.{Adder}
use Rattle.elf_add.specs.Held.{adder_with}
use Rattle.elf_add.specs.Parts.{IsPartsOf, IsStrings}
use Rattle.elf_add.specs.Pieces.{section_of}

all_are : (a : Adder) (i : Option ℕ) → i ≡ strings_index a.file a.sections a.addition → a.addition.sections ++ strings_alone i a.addition.strings ≡ new_sections a.file a.sections a.addition
unfolding new_sections
all_are a i e = ap (λ j. a.addition.sections ++ strings_alone j a.addition.strings) e

-- the adder a holds a file, sections, a table, what was added and strings
module _ (a : Adder) (file : List ℕ) (sections : List Section) (table : List ℕ) (added : List NewSection) (strings : Option (List ℕ)) (view : adder_with file sections added strings ≡ a) (of_file : table ≡ file) where
  pub parts_are : (p : AddedProgram) (all : List NewSection)
      → p.file.now ≡ file → p.count ≡ section_count table → p.names_index ≡ names_index table → p.names.now ≡ names file
      → option_map (λ g. g.index) p.strings ≡ strings_index a.file a.sections a.addition
      → IsStrings (section_bytes a.sections debug_str) (unwrap_or a.addition.strings []) p.strings
      → p.added.now ≡ all → map section_of all ≡ map section_of added ++ strings_alone (option_map (λ g. g.index) p.strings) strings
      → IsPartsOf p a.file a.sections a.addition
  parts_are p all is_file is_count is_index is_names is_strings_index is_strings is_all is_added =
      let whole : file ≡ a.file = ap (λ a. a.file) view in
      record {
        whole = is_file ∙ whole;
        count = is_count ∙ ap section_count (of_file ∙ whole);
        names_index = is_index ∙ ap names_index (of_file ∙ whole);
        names = is_names ∙ ap (λ f. names f) whole;
        strings_index = is_strings_index;
        strings = is_strings;
        added = ap (map section_of) is_all ∙ is_added ∙ ap (λ a. a.addition.sections ++ strings_alone (option_map (λ g. g.index) p.strings) a.addition.strings) view ∙ all_are a (option_map (λ g. g.index) p.strings) is_strings_index;
      }

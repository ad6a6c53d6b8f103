-- What is said of the names that are spelled beforehand.
use Rattle.std.specs.Prelude.{◌≡◌, ℕ, List, nat_eq, Option, Some}
use Rattle.indexmap.specs.IndexMap.{IndexMap, get}
use Rattle.index_model.specs.Sections.{Section}
use Rattle.gdb_entries.specs.Components.{spelled}
use Rattle.gdb_entries.specs.declared.language.LanguageClass.{LanguageClass}
use Rattle.gdb_entries.specs.declared.language.LanguageClass.TheVariants.{Cxx}
use Rattle.gdb_items.specs.Texts.{string_told}
use Rattle.gdb_names.specs.Both.{AreBoth}
use Rattle.gdb_names.specs.declared.both.BothNames.{BothNames}
use Rattle.gdb_texts.specs.declared.kept.PlacedName.{PlacedName}
use Rattle.gdb_texts.specs.declared.spelling.Spelling.{Spelling}
use Rattle.gdb_texts.specs.declared.spelling.Spelling.TheVariants.{Kept, New}

-- the names of a spelling
abbrev pub names_of : Spelling → BothNames
names_of (Kept names) = names.now
names_of (New names) = names

-- these are the C++ names by each release of the text at a place of `.debug_str`, if there is one
abbrev pub IsSpelledAt : List Section → ℕ → BothNames → Type 0
IsSpelledAt ss place names = (text : List ℕ) → string_told ss place ≡ Some text → AreBoth (λ release. spelled release Cxx text) names

-- these are the names of a text that stands in `.debug_str` at this place, in C++
pub record IsKeptFor (ss : List Section) (class : LanguageClass) (place : Option ℕ) (names : BothNames) : Type 0 where
  pub of_cxx : class ≡ Cxx
  pub at : ℕ
  pub place_is : place ≡ Some at
  pub spelled : IsSpelledAt ss at names

-- the names are those of their place
abbrev pub IsPlaced : List Section → PlacedName → Type 0
IsPlaced ss name = IsSpelledAt ss name.place name.names

-- what is kept of each place is what its text is spelled as
abbrev pub AllAreSpelled : {S : Type 0} → List Section → IndexMap ℕ BothNames S → Type 0
AllAreSpelled ss known = (place : ℕ) (names : BothNames) → get nat_eq known place ≡ Some names → IsSpelledAt ss place names

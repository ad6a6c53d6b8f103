-- The laws of a program with sections added, as statements.
use Rattle.std.specs.Prelude.{◌≡◌, ℕ, List, ◌++◌, Contains, Some, Ok}
use Rattle.index_model.specs.Sections.{Section, index_named, section_bytes, sections_of}
use Rattle.reach_model.specs.Added.{NewSection, Addition, added, new_sections}
use Rattle.reach_model.specs.AddedSections.{AreBytes, Fits, IsClearOfTheHeader, more_at, sections_then}

-- the file has the program's sections and those that are added, and none of them is damaged
abbrev pub SectionsAreAdded : Type 0
SectionsAreAdded = (file : List ℕ) (sections : List Section) (addition : Addition) → AreBytes file →
    sections_of file ≡ Ok sections → IsClearOfTheHeader file → Fits file sections addition →
    sections_of (added file sections addition) ≡ Ok (sections_then file sections addition)

-- of each name that the program has a section of, its bytes are there, and behind them what is added to it
abbrev pub NamedSectionsKeepTheirBytes : Type 0
NamedSectionsKeepTheirBytes = (file : List ℕ) (sections : List Section) (addition : Addition) (name : List ℕ) (i : ℕ) →
    index_named sections name ≡ Some i →
    section_bytes (sections_then file sections addition) name ≡ section_bytes sections name ++ more_at file sections addition i

-- each added section is found by its name
abbrev pub AddedSectionsAreFound : Type 0
AddedSectionsAreFound = (file : List ℕ) (sections : List Section) (addition : Addition) → Fits file sections addition →
    (s : NewSection) → Contains (new_sections file sections addition) s →
    section_bytes (sections_then file sections addition) s.name ≡ s.content

-- What the sections of a program are once others are added (System V gABI, chapter 4, "Sections").
use Rattle.std.specs.Prelude.{◌≡◌, ◌+◌, ◌^◌, ◌<◌, ◌≤◌, ℕ, ◌==◌, false, List, [], ◌∷◌, ◌++◌, length, map, bytes_eq, slice_index, codes, None, if◌then◌else◌}
use Rattle.std.specs.List.{enumerate_from, AllByRecursion as AllOf}
use Rattle.index_model.specs.Sections.{Section, begins_with, header_at, index_named, is_empty, names_index, section_count}
use Rattle.reach_model.specs.Added.{NewSection, Addition, added, debug_str, is_at, more_strings, names_start, new_names, new_sections, strings_index}

-- ---- conditions

-- the numbers of a file are bytes
abbrev pub AreBytes : List ℕ → Type 0
AreBytes file = (k : ℕ) → slice_index file k < 256

-- no section that has bytes has one among the first 64 of the file, which are the ELF header
abbrev pub IsClearOfTheHeader : List ℕ → Type 0
IsClearOfTheHeader file = (i : ℕ) → 0 < i → i < section_count file → is_empty (header_at file i) ≡ false → 64 ≤ (header_at file i).at

-- the place of each name in the names' section has four bytes
abbrev pub HavePlaces : ℕ → List NewSection → Type 0
HavePlaces start [] = Unit {0}
HavePlaces start (s ∷ others) = (start < 2 ^ 32) × HavePlaces (start + length s.name + 1) others

-- no two sections have one name
abbrev pub AreApart : List NewSection → Type 0
AreApart [] = Unit {0}
AreApart (s ∷ others) = AllOf (λ t. bytes_eq t.name s.name ≡ false) others × AreApart others

-- the program has no section of this name
abbrev pub IsNewIn : List Section → NewSection → Type 0
IsNewIn sections s = index_named sections s.name ≡ None

-- a name has no zero, and no compressed section has it
pub record IsNameOfOne (name : List ℕ) : Type 0 where
  pub no_zero : AllOf (λ b. (b == 0) ≡ false) name
  pub plain : begins_with (codes ".zdebug_") name ≡ false

-- what may be added to a program: sections with new names, and strings; a `.debug_str` is added by strings alone
pub record Fits (file : List ℕ) (sections : List Section) (addition : Addition) : Type 0 where
  pub names : AllOf (λ s. IsNameOfOne s.name) addition.sections
  pub apart : AreApart addition.sections
  pub new : AllOf (IsNewIn sections) addition.sections
  pub not_strings : AllOf (λ s. bytes_eq s.name debug_str ≡ false) addition.sections
  pub places : HavePlaces (names_start file sections addition) (new_sections file sections addition)
  pub size : length (added file sections addition) < 2 ^ 64

-- ---- the sections then

-- a program file, its sections, and what is added
module _ (file : List ℕ) (sections : List Section) (addition : Addition) where
  -- what comes behind the bytes of the section at an index
  unfoldable pub more_at : ℕ → List ℕ
  more_at i =
      if is_at i (strings_index file sections addition) then more_strings file sections addition else
      if i == names_index file then new_names file sections addition else []

  -- the program's section with its index
  unfoldable pub old_section : ℕ × Section → Section
  old_section e = record e.1 { content = e.1.content ++ more_at e.0 }

  -- an added section, without flags
  unfoldable pub new_section : NewSection → Section
  new_section s = record { name = s.name; flags = 0; content = s.content }

  -- the sections of the program, and those that are added
  unfoldable pub sections_then : List Section
  sections_then = map old_section (enumerate_from 1 sections) ++ map new_section (new_sections file sections addition)

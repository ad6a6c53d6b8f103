-- The law of the generated file: what a unit specifies stands where it says.
use Rattle.std.specs.Prelude.{◌≡◌, ℕ, ◌<◌, ◌%◌, List, [], ◌∷◌, ◌++◌, length, codes}
use Rattle.index_model.specs.Tags.{subprogram}
use Rattle.elf_make.specs.PlainForm.{Name, External, Declaration, entry_bytes}
use Rattle.elf_make.specs.Generated.{abbreviations, declaration_in, specified_by, generated_info}

-- these bytes stand at a place of the others
pub record StandsAt (place : ℕ) (part whole : List ℕ) : Type 0 where
  pub before : List ℕ
  pub after : List ℕ
  pub is : whole ≡ before ++ (part ++ after)
  pub at : length before ≡ place

-- at the offset that a unit of odd number specifies the declaration of a method m stands
abbrev pub DeclarationsStandThere : Type 0
DeclarationsStandThere = (seed units i : ℕ) → i < units → i % 2 ≡ 1 →
    StandsAt (declaration_in (abbreviations seed units) seed (specified_by seed units i))
    (entry_bytes (abbreviations seed units) subprogram 0 (Name (codes "m") ∷ External ∷ Declaration ∷ []))
    (generated_info seed units)

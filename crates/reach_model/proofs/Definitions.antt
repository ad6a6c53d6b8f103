-- A module of the definitions is checked where something names it. Here stand those that nothing else of this crate names.
use Rattle.std.proofs.Common.{ℕ, List, [], ◌∷◌, Option}
use Rattle.ix_base.specs.declared.fault.Fault.{Fault}
use Rattle.reach_model.specs.FileTexts.{text_of_files}
use Rattle.reach_model.specs.KeptTexts.{text_of_hit, text_of_stale, text_of_stored, text_of_unsaved}

-- what is written for a file and a name
abbrev written : List ℕ → List ℕ → ℕ × List ℕ
written = text_of_files

-- the lines before the answer of an index that was kept, or is to be kept
abbrev lines : Option Fault → List (List ℕ)
lines why = text_of_hit ∷ text_of_stale why ∷ text_of_stored ∷ text_of_unsaved ∷ []

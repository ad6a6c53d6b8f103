-- What the comparison of an address table with the units' own ranges writes.
use Rattle.std.specs.Prelude.{ℕ, List, [], ◌∷◌, ◌++◌, decimal, codes, Option, Some, None}
use Rattle.ix_base.specs.declared.fault.Fault.{Fault}
use Rattle.index_model.specs.Texts.{hex, line, text_of_fault}
use Rattle.reach_model.specs.declared.difference.Difference.{Difference}

-- the number of a unit, if there is one
abbrev pub unit_word : Option ℕ → List ℕ
unit_word None = codes "none"
unit_word (Some unit) = decimal unit

-- that they agree, or the first address with two answers: the unit by the table, and the unit by its own ranges
unfoldable pub text_of_comparison : Option Difference → List ℕ
text_of_comparison None = line (codes "agrees" ∷ [])
text_of_comparison (Some d) = line (codes "differs" ∷ hex d.address ∷ unit_word d.table ∷ unit_word d.own ∷ [])

-- the text of a refused address table: code and place
unfoldable pub text_of_aranges_fault : Fault → List ℕ
text_of_aranges_fault f = codes "aranges " ++ text_of_fault f

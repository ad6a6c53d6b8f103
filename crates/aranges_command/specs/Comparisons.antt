-- Whether the address table of a file agrees with the ranges of its units.
use Rattle.std.specs.Prelude.{◌≡◌, ℕ, List, Option, Result, IsOkAnd}
use Rattle.ix_base.specs.declared.fault.Fault.{Fault}
use Rattle.index_model.specs.declared.range.UnitRange.{UnitRange}
use Rattle.index_model.specs.Faults.{Built, built_of}
use Rattle.index_model.specs.Pieces.{IsPieces}
use Rattle.index_model.specs.Ranges.{unit_at}
use Rattle.index_model.specs.Meaning.{◌>>=◌}
use Rattle.index_model.specs.Units.{units_of}
use Rattle.reach_model.specs.AddressSets.{AddressSet, address_sets, aranges_unit_at}
use Rattle.reach_model.specs.Differences.{IsComparison}
use Rattle.reach_model.specs.AddressTexts.{text_of_aranges_fault, text_of_comparison}
use Rattle.reach_model.specs.declared.difference.Difference.{Difference}
use Rattle.command_base.specs.Replies.{IsRefusalOf}
use Rattle.command_base.specs.Tables.{SaysTable, SaysTableFault}
use Rattle.command_base.specs.declared.status.Status.{Status}
use Rattle.command_base.specs.declared.status.Status.TheVariants.{Answered, Refused, TableRefused}
use Rattle.command_base.specs.declared.status.RefusedTable.TheVariants.{Addresses}

-- what the address table of a program is read as
abbrev pub sets_of : Built → Result (List AddressSet) Fault
sets_of b = units_of b.program.sections >>= address_sets b.program.sections

-- the line says how these sets compare with the ranges of the units
abbrev pub IsLineOf : Built → List AddressSet → List ℕ → Type 0
IsLineOf b sets text = (difference : Option Difference) × IsComparison (aranges_unit_at sets) (unit_at b.ranges) difference × (text ≡ text_of_comparison difference)

-- the text says how the table of these bytes, which have no fault, compares with their units
abbrev pub IsComparisonOf : List ℕ → List ℕ → Type 0
IsComparisonOf file text = SaysTable file sets_of IsLineOf text

-- the text is that of the first fault of that table
abbrev pub IsArangesRefusalOf : List ℕ → List ℕ → Type 0
IsArangesRefusalOf file text = SaysTableFault file sets_of text_of_aranges_fault text

-- what the text says, by the status
abbrev pub SaysAranges : List ℕ → Status → List ℕ → Type 0
SaysAranges file Answered text = IsComparisonOf file text
SaysAranges file Refused text = IsRefusalOf file text
SaysAranges file (TableRefused Addresses) text = IsArangesRefusalOf file text
SaysAranges file other text = ⊥

-- the pieces are those of the ranges of the units
abbrev pub IsMapOf : List ℕ → List UnitRange → Type 0
IsMapOf file map = IsOkAnd (built_of file) (λ b. IsPieces b.ranges map)

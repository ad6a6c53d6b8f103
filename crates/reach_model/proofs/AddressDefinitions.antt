-- A module of the definitions is checked where something names it. Here stand those of address tables.
use Rattle.std.proofs.Common.{ℕ, List, Option, Result}
use Rattle.ix_base.specs.declared.fault.Fault.{Fault}
use Rattle.index_model.specs.declared.range.UnitRange.{UnitRange}
use Rattle.index_model.specs.declared.unit.Unit.{Unit as UnitHeader}
use Rattle.index_model.specs.Sections.{Section}
use Rattle.reach_model.specs.declared.difference.Difference.{Difference}
use Rattle.reach_model.specs.AddressSets.{AddressSet, address_sets}
use Rattle.reach_model.specs.AddressTexts.{text_of_comparison}
use Rattle.reach_model.specs.Differences.{IsFirstDifference}

-- the sets of a table
abbrev sets : List Section → List UnitHeader → Result (List AddressSet) Fault
sets = address_sets

-- what is written of a comparison
abbrev written : Option Difference → List ℕ
written = text_of_comparison

-- what a comparison finds
abbrev found : List UnitRange → List UnitRange → Difference → Type 0
found = IsFirstDifference

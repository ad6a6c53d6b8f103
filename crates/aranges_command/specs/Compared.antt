-- What is said of a table that was read.
use Rattle.std.specs.Prelude.{◌≡◌, ℕ, List, Option}
use Rattle.ix_base.specs.declared.fault.Fault.{Fault}
use Rattle.reach_model.specs.AddressTexts.{text_of_aranges_fault, text_of_comparison}
use Rattle.reach_model.specs.declared.difference.Difference.{Difference}
use Rattle.command_base.specs.declared.status.Status.{Status}
use Rattle.command_base.specs.declared.status.Status.TheVariants.{Answered, TableRefused}
use Rattle.command_base.specs.declared.status.RefusedTable.TheVariants.{Addresses}

-- the line of a comparison
abbrev pub SaysComparison : Option Difference → Status → List ℕ → Type 0
SaysComparison difference Answered text = text ≡ text_of_comparison difference
SaysComparison difference other text = ⊥

-- the line of a table with a fault
abbrev pub SaysFault : Fault → Status → List ℕ → Type 0
SaysFault fault (TableRefused Addresses) text = text ≡ text_of_aranges_fault fault
SaysFault fault other text = ⊥

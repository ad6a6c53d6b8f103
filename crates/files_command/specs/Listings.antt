-- The source files with a name that the line tables of a file name.
use Rattle.std.specs.Prelude.{◌≡◌, ℕ, List, Result}
use Rattle.ix_base.specs.declared.fault.Fault.{Fault}
use Rattle.index_model.specs.Faults.{Built}
use Rattle.reach_model.specs.LineTables.{FileHit, hits_of}
use Rattle.reach_model.specs.FileTexts.{text_of_files_fault, text_of_hits}
use Rattle.command_base.specs.Replies.{IsRefusalOf}
use Rattle.command_base.specs.Tables.{SaysTable, SaysTableFault}
use Rattle.command_base.specs.declared.status.Status.{Status}
use Rattle.command_base.specs.declared.status.Status.TheVariants.{Answered, Refused, TableRefused}
use Rattle.command_base.specs.declared.status.RefusedTable.TheVariants.{Lines}

-- what the line tables of a program have of a name
abbrev pub found_by : List ℕ → Built → Result (List FileHit) Fault
found_by name b = hits_of b.program.sections b.program.walks name

-- the text lists the files with this name in the tables of these bytes, which have no fault
abbrev pub IsListingOf : List ℕ → List ℕ → List ℕ → Type 0
IsListingOf file name text = SaysTable file (found_by name) (λ b hits text. text ≡ text_of_hits hits) text

-- the text is that of the first fault of these tables
abbrev pub IsFilesRefusalOf : List ℕ → List ℕ → List ℕ → Type 0
IsFilesRefusalOf file name text = SaysTableFault file (found_by name) text_of_files_fault text

-- what the text says, by the status
abbrev pub SaysFiles : List ℕ → List ℕ → Status → List ℕ → Type 0
SaysFiles file name Answered text = IsListingOf file name text
SaysFiles file name Refused text = IsRefusalOf file text
SaysFiles file name (TableRefused Lines) text = IsFilesRefusalOf file name text
SaysFiles file name other text = ⊥

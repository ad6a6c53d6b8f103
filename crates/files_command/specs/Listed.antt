-- What is said of tables that were searched.
use Rattle.std.specs.Prelude.{◌≡◌, ℕ, List}
use Rattle.ix_base.specs.declared.fault.Fault.{Fault}
use Rattle.reach_model.specs.LineTables.{FileHit}
use Rattle.reach_model.specs.FileTexts.{text_of_files_fault, text_of_hits}
use Rattle.command_base.specs.declared.status.Status.{Status}
use Rattle.command_base.specs.declared.status.Status.TheVariants.{Answered, TableRefused}
use Rattle.command_base.specs.declared.status.RefusedTable.TheVariants.{Lines}

-- the lines of what was found
abbrev pub SaysHits : List FileHit → Status → List ℕ → Type 0
SaysHits hits Answered text = text ≡ text_of_hits hits
SaysHits hits other text = ⊥

-- the line of a table with a fault
abbrev pub SaysFault : Fault → Status → List ℕ → Type 0
SaysFault fault (TableRefused Lines) text = text ≡ text_of_files_fault fault
SaysFault fault other text = ⊥

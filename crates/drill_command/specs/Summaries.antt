-- What is said of a file whose indexes are measured, and the parts of its build.
use Rattle.std.specs.Prelude.{◌≡◌, ℕ, List, ⊤}
use Rattle.index_model.specs.declared.job.CacheKind.TheVariants.{Gdb8}
use Rattle.index_model.specs.Outputs.{Subject}
use Rattle.index_model.specs.Parts.{Parts}
use Rattle.index_board.specs.Kept.{AreOf}
use Rattle.drill_command.specs.Drills.{Totals, totals_line, IsSummaryOf, HasTooLarge}
use Rattle.command_base.specs.Replies.{IsRefusalOf}
use Rattle.command_base.specs.declared.status.Status.{Status}
use Rattle.command_base.specs.declared.status.Status.TheVariants.{Answered, Refused, WriteFault, NoMemory, IndexTooLarge}
use Rattle.drill_command.specs.declared.totals.Totals.{Totals as Measured}

-- the totals of the code
abbrev pub totals_seen : Measured → Totals
totals_seen t = record {
  units = t.units;
  entries = t.entries;
  names = t.names;
  gdb_index = t.gdb_index;
  name_index = t.name_index;
  strings = t.strings;
  main = t.main.now;
}

-- the parts that a build of this file's `.gdb_index` has published
pub record AreBuiltOf (file : List ℕ) (parts : Parts) : Type 0 where
  pub subject : Subject
  pub file_is : subject.file ≡ file
  pub writes : subject.cache ≡ Gdb8
  pub are : AreOf subject parts

-- the line of these totals
abbrev pub SaysTotals : Totals → Status → List ℕ → Type 0
SaysTotals totals Answered text = text ≡ totals_line totals
SaysTotals totals other text = ⊥

-- the sizes of a file's program and of its indexes; or its first fault
abbrev pub SaysSummary : List ℕ → Status → List ℕ → Type 0
SaysSummary file Answered text = IsSummaryOf file text
SaysSummary file Refused text = IsRefusalOf file text
SaysSummary file other text = ⊥

-- the cause of a status then, by whether a write failed
abbrev pub CausesOfSummary : List ℕ → Type 0 → Status → Type 0
CausesOfSummary file writes Answered = ⊤
CausesOfSummary file writes Refused = ⊤
CausesOfSummary file writes NoMemory = ⊤
CausesOfSummary file writes WriteFault = writes
CausesOfSummary file writes IndexTooLarge = HasTooLarge file
CausesOfSummary file writes other = ⊥

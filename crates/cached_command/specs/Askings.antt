-- An index that is kept is asked.
use Rattle.std.specs.Prelude.{◌≡◌, ℕ, ◌≤◌, List, ◌++◌, length, Option, Some, None, Ok, ⊤}
use Rattle.ix_base.specs.declared.fault.Fault.{Fault}
use Rattle.ix_base.specs.declared.limits.TheConstants.{MAX_FILE_BYTES}
use Rattle.index_model.specs.GdbIndexRead.{GdbIndex}
use Rattle.query_text.specs.Questions.{Question}
use Rattle.reach_model.specs.KeptIndexes.{kept_index}
use Rattle.reach_model.specs.KeptTexts.{text_of_hit}
use Rattle.outside.specs.Files.{Files}
use Rattle.command_base.specs.FilesRead.{Holds}
use Rattle.command_base.specs.GdbLooks.{gdb_text}
use Rattle.command_base.specs.declared.status.Status.{Status}
use Rattle.command_base.specs.declared.status.Status.TheVariants.{Answered, WriteFault, NoMemory}
use Rattle.cached_command.specs.Caches.{IsStale}
use Rattle.cached_command.specs.Places.{Spot}
use Rattle.cached_command.specs.declared.ask.Asked.{Asked}
use Rattle.cached_command.specs.declared.ask.Asked.TheVariants as asks

-- what holds of the status, where the command has ended
abbrev pub OnEnded : Asked → (Status → Type 0) → Type 0
OnEnded (asks.Ended status) P = P status
OnEnded (asks.Missed why) P = ⊤

-- what holds of the fault of what is kept, or of none, where it hasn't
abbrev pub OnMissed : Asked → (Option Fault → Type 0) → Type 0
OnMissed (asks.Ended status) P = ⊤
OnMissed (asks.Missed why) P = P why

-- the index that is kept at the spot answers
pub record IsHitAt (told : Option Files) (spot : Spot) (q : Question) (text : List ℕ) : Type 0 where
  pub kept : List ℕ
  pub held : Holds told spot.name kept
  pub small : length kept ≤ MAX_FILE_BYTES
  pub index : GdbIndex
  pub accepted : kept_index kept spot.id ≡ Ok index
  pub answer : List ℕ
  pub answers : gdb_text index q ≡ Some answer
  pub text_is : text ≡ text_of_hit ++ answer

-- what is said of it
abbrev pub SaysHit : Option Files → Option Spot → Question → Status → List ℕ → Type 0
SaysHit told (Some spot) q Answered text = IsHitAt told spot q text
SaysHit told spot q status text = ⊥

-- the cause of a status, by whether a write failed
abbrev pub CausesOfHit : Type 0 → Status → Type 0
CausesOfHit writes Answered = ⊤
CausesOfHit writes NoMemory = ⊤
CausesOfHit writes WriteFault = writes
CausesOfHit writes other = ⊥

-- none answers: there is no spot, a read failed, or what was read has this fault
abbrev pub IsMissedAt : Option Files → Option Spot → Type 0 → Option Fault → Type 0
IsMissedAt told None kept_reads why = why ≡ None
IsMissedAt told (Some spot) kept_reads None = kept_reads
IsMissedAt told (Some spot) kept_reads (Some f) = IsStale told spot.name spot.id f

-- What the text of a result says, by what was asked and the status.
use Rattle.std.specs.Prelude.{◌≡◌, ◌⊎◌, ℕ, List, Option, Some}
use Rattle.elf_make.specs.Generated.{generated_file}
use Rattle.ix_base.specs.declared.limits.TheConstants.{MAX_FILE_BYTES}
use Rattle.outside.specs.Counts.{Rose}
use Rattle.outside.specs.Files.{Files}
use Rattle.outside.specs.Written.{AppendsPrefix}
use Rattle.command_base.specs.Replies.{OfBytesUpTo, OfFileBytes, OfWholeFile, line_of}
use Rattle.command_base.specs.declared.status.Status.{Status}
use Rattle.race_command.specs.declared.script.TheConstants.{MAX_SCRIPT_BYTES}
use Rattle.session_base.specs.Heard.{Heard}
use Rattle.race_command.specs.Races.{SaysRace}
use Rattle.serve_command.specs.SessionResults.{SaysServe, IsServeMeant}
use Rattle.drill_command.specs.DrillResults.{SaysDrill, IsDrillMeant}
use Rattle.index_cmd.specs.Replies.{IsComplete, SaysRequest}
use Rattle.index_cmd.specs.Requests.{Request, OfServe, OfRace, OfDrill}

-- ---- texts

-- what was asked
abbrev pub Says : Option Request → Option Files → Heard → Status → List ℕ → Type 0
Says (Some (OfServe how file)) told heard status text = OfFileBytes told file (λ bytes. SaysServe how.spelling bytes how.wait heard status text)
Says (Some (OfRace how file script)) told heard status text = OfFileBytes told file (λ bytes. OfBytesUpTo MAX_SCRIPT_BYTES told script (λ held. SaysRace how.spelling bytes how.readers held status text))
Says (Some (OfDrill seed units)) told heard status text = SaysDrill seed units status text
Says request told heard status text = SaysRequest request told status text

-- the text of a result, or the line of another status
abbrev pub IsText : Option Request → Option Files → Heard → List ℕ → Type 0
IsText request told heard text = (status : Status) × (Says request told heard status text ⊎ (line_of status ≡ Some text))

-- a prefix of such a text was appended
abbrev pub WritesPrefix : Option Request → Option Files → Heard → Option (List ℕ) → Option (List ℕ) → Type 0
WritesPrefix request told heard old new = (text : List ℕ) × IsText request told heard text × AppendsPrefix old new text

-- ---- completeness

-- Where nothing failed, the status is that of what was asked, or want of memory.
abbrev pub Completes : Option Request → Option Files → Heard → Type 0 → Type 0 → Type 0 → ℕ → Type 0
Completes (Some (OfServe how file)) told heard reads stores writes status = OfWholeFile MAX_FILE_BYTES told file reads writes (λ bytes. (Rose heard.faults_old heard.faults_new → ⊥) → IsServeMeant bytes status)
Completes (Some (OfRace how file script)) told heard reads stores writes status = OfWholeFile MAX_FILE_BYTES told file reads writes (λ bytes. OfWholeFile MAX_SCRIPT_BYTES told script reads writes (λ held. IsServeMeant bytes status))
Completes (Some (OfDrill seed units)) told heard reads stores writes status = (writes → ⊥) → IsDrillMeant (generated_file seed units) status
Completes request told heard reads stores writes status = IsComplete request told reads stores writes status

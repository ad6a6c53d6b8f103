-- What the text of a session says, by the status, and which status comes.
use Rattle.std.specs.Prelude.{◌≡◌, ◌⊎◌, ℕ, List, Some, IsSome}
use Rattle.ix_base.specs.declared.fault.Fault.{Fault}
use Rattle.outside.specs.Counts.{Rose}
use Rattle.index_model.specs.Faults.{first_fault, IsAccepted}
use Rattle.index_model.specs.Stages.{refused}
use Rattle.command_base.specs.declared.status.Status.{Status}
use Rattle.command_base.specs.declared.status.Status.TheVariants.{Answered, Refused, InputFault, InputTooLong, Stopped}
use Rattle.session_base.specs.Heard.{Heard}
use Rattle.session_base.specs.Sessions.{Serves, ServesLong, ServesPart, ServesWhole}
use Rattle.name_quotes.specs.declared.quote.Spelling.{Spelling}

-- where sessions were asked, the status is that of the file's meaning, want of memory, or a line that is too long
pub record IsServeMeant (file : List ℕ) (status : ℕ) : Type 0 where
  pub answered : IsAccepted file → (status ≡ 0) ⊎ (status ≡ 7) ⊎ (status ≡ 11)
  pub refused_ : (f : Fault) → first_fault file ≡ Some f → (status ≡ 1) ⊎ (status ≡ 7) ⊎ (status ≡ 11)

module _ (spelling : Spelling) where
  -- a session over a file. Where it ended well, the whole input was answered and no look was at stage 5.
  abbrev pub SaysServe : List ℕ → ℕ → Heard → Status → List ℕ → Type 0
  SaysServe file wait heard Answered text = IsAccepted file × Serves spelling file wait refused heard text
  SaysServe file wait heard Refused text = IsSome (first_fault file) × Serves spelling file wait refused heard text
  SaysServe file wait heard InputFault text = Rose heard.faults_old heard.faults_new × ServesWhole spelling file wait heard text
  SaysServe file wait heard InputTooLong text = ServesLong spelling file wait heard text
  SaysServe file wait heard Stopped text = ServesPart spelling file wait heard text
  SaysServe file wait heard other text = ⊥

-- No kept index answered, and the index is built.
use Rattle.std.specs.Prelude.{◌≡◌, ℕ, List, ◌++◌, Option, Ok, ⊤}
use Rattle.ix_base.specs.declared.fault.Fault.{Fault}
use Rattle.index_model.specs.GdbIndexRead.{GdbIndex, gdb_index}
use Rattle.query_text.specs.Questions.{Question}
use Rattle.outside.specs.Files.{Files, SameFiles}
use Rattle.reach_model.specs.KeptTexts.{text_of_stale}
use Rattle.command_base.specs.GdbLooks.{IsGdbAnswerOf}
use Rattle.command_base.specs.Replies.{IsRefusalOf}
use Rattle.command_base.specs.declared.status.Status.{Status}
use Rattle.command_base.specs.declared.status.Status.TheVariants.{Answered, Refused, WriteFault, NoMemory, IndexTooLarge}
use Rattle.cached_command.specs.Cached.{HasMissed}
use Rattle.cached_command.specs.Caches.{IsIndexOf, IsTooLarge}
use Rattle.cached_command.specs.Places.{Spot}
use Rattle.cached_command.specs.Savings.{text_of_saved, IsSaved}
use Rattle.cached_command.specs.declared.save.Saved.{Saved}

-- the bytes are an index without a fault
abbrev pub IsRead : List ℕ → Type 0
IsRead bytes = (index : GdbIndex) × (gdb_index bytes ≡ Ok index)

-- ---- an index is kept, and answers

pub record IsAnswerSaved (before after : Option Files) (stores : Type 0) (spot : Option Spot) (why : Option Fault) (bytes : List ℕ) (q : Question) (text : List ℕ) : Type 0 where
  pub saved : Saved
  pub is : IsSaved before after stores spot bytes saved
  pub answer : List ℕ
  pub answers : IsGdbAnswerOf bytes q answer
  pub text_is : text ≡ text_of_stale why ++ (text_of_saved saved ++ answer)

abbrev pub SaysSaved : Option Files → Option Files → Type 0 → Option Spot → Option Fault → List ℕ → Question → Status → List ℕ → Type 0
SaysSaved before after stores spot why bytes q Answered text = IsAnswerSaved before after stores spot why bytes q text
SaysSaved before after stores spot why bytes q other text = ⊥

abbrev pub CausesOfSaved : Option Files → Option Files → Type 0 → Status → Type 0
CausesOfSaved before after writes Answered = ⊤
CausesOfSaved before after writes WriteFault = writes
CausesOfSaved before after writes NoMemory = SameFiles before after
CausesOfSaved before after writes other = ⊥

-- ---- it is built before, or the file has a fault

abbrev pub SaysBuilt : Option Files → Option Files → Type 0 → List ℕ → Option Spot → Option Fault → Question → Status → List ℕ → Type 0
SaysBuilt before after stores file spot why q Answered text = (bytes : List ℕ) × IsIndexOf file bytes × IsAnswerSaved before after stores spot why bytes q text
SaysBuilt before after stores file spot why q Refused text = IsRefusalOf file text × SameFiles before after
SaysBuilt before after stores file spot why q other text = ⊥

abbrev pub CausesOfBuilt : Option Files → Option Files → List ℕ → Type 0 → Status → Type 0
CausesOfBuilt before after file writes Answered = ⊤
CausesOfBuilt before after file writes Refused = ⊤
CausesOfBuilt before after file writes WriteFault = writes
CausesOfBuilt before after file writes NoMemory = SameFiles before after
CausesOfBuilt before after file writes IndexTooLarge = IsTooLarge file × SameFiles before after
CausesOfBuilt before after file writes other = ⊥

-- ---- the whole command

abbrev pub CausesTied : Option Files → Option Files → List ℕ → List ℕ → Type 0 → Type 0 → Status → Type 0
CausesTied before after file store kept_reads writes Answered = ⊤
CausesTied before after file store kept_reads writes Refused = ⊤
CausesTied before after file store kept_reads writes WriteFault = writes
CausesTied before after file store kept_reads writes NoMemory = SameFiles before after
CausesTied before after file store kept_reads writes IndexTooLarge = IsTooLarge file × SameFiles before after × HasMissed before file store kept_reads
CausesTied before after file store kept_reads writes other = ⊥

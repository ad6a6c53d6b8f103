-- What the text of a result of `drill` says, by the status, and which status comes.
use Rattle.std.specs.Prelude.{◌≡◌, ◌≢◌, ◌⊎◌, ℕ, List, Some, Ok, ⊤}
use Rattle.elf_make.specs.Generated.{generated_file}
use Rattle.ix_base.specs.declared.fault.Fault.{Fault}
use Rattle.index_model.specs.declared.job.CacheKind.TheVariants.{Gdb8, Names}
use Rattle.index_model.specs.Cache.{DoesNotFit, cache_in}
use Rattle.index_model.specs.Faults.{Built, built_of, first_fault}
use Rattle.command_base.specs.Replies.{IsRefusalOf}
use Rattle.command_base.specs.declared.status.Status.{Status}
use Rattle.command_base.specs.declared.status.Status.TheVariants.{Answered, Refused, WriteFault, NoMemory, IndexTooLarge}
use Rattle.drill_command.specs.Drills.{HasTooLarge, IsSummaryOf}

-- the program of a seed with so many units
abbrev pub SaysDrill : ℕ → ℕ → Status → List ℕ → Type 0
SaysDrill seed units Answered text = IsSummaryOf (generated_file seed units) text
SaysDrill seed units Refused text = IsRefusalOf (generated_file seed units) text
SaysDrill seed units other text = ⊥

-- the cause of a status, where such a program was asked, by whether a write failed
abbrev pub CausesOfDrill : ℕ → ℕ → Type 0 → Status → Type 0
CausesOfDrill seed units writes Answered = ⊤
CausesOfDrill seed units writes Refused = ⊤
CausesOfDrill seed units writes NoMemory = ⊤
CausesOfDrill seed units writes WriteFault = writes
CausesOfDrill seed units writes IndexTooLarge = HasTooLarge (generated_file seed units)
CausesOfDrill seed units writes other = ⊥

-- where a program was made, the status is that of its indexes, or want of memory
pub record IsDrillMeant (file : List ℕ) (status : ℕ) : Type 0 where
  pub answered : (b : Built) → built_of file ≡ Ok b → cache_in Gdb8 b ≢ DoesNotFit → cache_in Names b ≢ DoesNotFit → (status ≡ 0) ⊎ (status ≡ 7)
  pub too_large : HasTooLarge file → (status ≡ 9) ⊎ (status ≡ 7)
  pub refused_ : (f : Fault) → first_fault file ≡ Some f → (status ≡ 1) ⊎ (status ≡ 7)

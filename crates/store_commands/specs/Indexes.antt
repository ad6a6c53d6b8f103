-- What became of the index of a file's bytes.
use Rattle.std.specs.Prelude.{◌≡◌, ◌≢◌, ◌⊎◌, ℕ, List, [], Option, Some, Ok, ⊤}
use Rattle.ix_base.specs.declared.fault.Fault.{Fault}
use Rattle.index_forms.specs.declared.form.IndexForm.{IndexForm}
use Rattle.index_model.specs.Cache.{Cache, DoesNotFit}
use Rattle.index_model.specs.Faults.{Built, built_of, first_fault}
use Rattle.outside.specs.Files.{Files, SameFiles}
use Rattle.gdb_index.specs.Indexes.{index_in}
use Rattle.command_base.specs.Replies.{IsRefusalOf, IsTooLarge}
use Rattle.store_commands.specs.Stores.{ForIndexOf, Keeps, KeepsPart}
use Rattle.command_base.specs.declared.status.Status.{Status}
use Rattle.command_base.specs.declared.status.Status.TheVariants.{Answered, Refused, StoreFault, WriteFault, NoMemory, IndexRefused, IndexTooLarge}

-- the index in this form of these bytes, which have no fault
abbrev pub IsIndexOf : List ℕ → IndexForm → Cache → Type 0
IsIndexOf file form cache = ForIndexOf file form (λ c. cache ≡ c)

-- nothing is said of an index that is stored; of a file with a fault, its first one
abbrev pub SaysIndex : List ℕ → Status → List ℕ → Type 0
SaysIndex file Answered text = text ≡ []
SaysIndex file Refused text = IsRefusalOf file text
SaysIndex file other text = ⊥

-- the cause of a status, by whether a store or a write failed
abbrev pub CausesOfIndex : List ℕ → IndexForm → Type 0 → Type 0 → Status → Type 0
CausesOfIndex file form stores writes Answered = ⊤
CausesOfIndex file form stores writes Refused = ⊤
CausesOfIndex file form stores writes IndexRefused = ⊤
CausesOfIndex file form stores writes NoMemory = ⊤
CausesOfIndex file form stores writes StoreFault = stores
CausesOfIndex file form stores writes WriteFault = writes
CausesOfIndex file form stores writes IndexTooLarge = ForIndexOf file form IsTooLarge
CausesOfIndex file form stores writes other = ⊥

-- the same, where these bytes have no fault and nothing is written
abbrev pub CausesOfStoring : List ℕ → IndexForm → Type 0 → Status → Type 0
CausesOfStoring file form stores Answered = ⊤
CausesOfStoring file form stores NoMemory = ⊤
CausesOfStoring file form stores StoreFault = stores
CausesOfStoring file form stores IndexTooLarge = ForIndexOf file form IsTooLarge
CausesOfStoring file form stores other = ⊥

-- what the shelf holds then
abbrev pub LeavesIndex : List ℕ → IndexForm → Option Files → Option Files → List ℕ → Status → Type 0
LeavesIndex file form old new out Answered = ForIndexOf file form (Keeps old new out)
LeavesIndex file form old new out StoreFault = ForIndexOf file form (KeepsPart old new out)
LeavesIndex file form old new out other = SameFiles old new

-- the status is that of the meaning of a file whose index was to be stored, which its format can hold or not; or want of memory
pub record IsIndexMeant (file : List ℕ) (form : IndexForm) (status : ℕ) : Type 0 where
  pub stored : (b : Built) → built_of file ≡ Ok b → index_in form b ≢ DoesNotFit → (status ≡ 0) ⊎ (status ≡ 7)
  pub too_large : (b : Built) → built_of file ≡ Ok b → index_in form b ≡ DoesNotFit → (status ≡ 9) ⊎ (status ≡ 7)
  pub refused : (f : Fault) → first_fault file ≡ Some f → (status ≡ 1) ⊎ (status ≡ 7)

-- What becomes of `cached`, by its status.
use Rattle.std.specs.Prelude.{◌≡◌, ◌⊎◌, ℕ, List, Option, Some, Ok, ⊤}
use Rattle.ix_base.specs.declared.fault.Fault.{Fault}
use Rattle.index_model.specs.Faults.{first_fault}
use Rattle.query_text.specs.Questions.{Question}
use Rattle.reach_model.specs.BuildIds.{cache_name}
use Rattle.reach_model.specs.KeptIndexes.{kept_bytes}
use Rattle.outside.specs.Files.{Files, SameFiles, StoredOrPrefix}
use Rattle.command_base.specs.Replies.{IsRefusalOf}
use Rattle.command_base.specs.declared.status.Status.{Status}
use Rattle.command_base.specs.declared.status.Status.TheVariants.{Answered, Refused, WriteFault, NoMemory, IndexTooLarge}
use Rattle.cached_command.specs.Caches.{id_of, FaultsEarly, IsCached, IsIndexOf, IsMissed, IsTooLarge}

-- what the text of a result says, by its status
abbrev pub SaysCached : Option Files → List ℕ → List ℕ → Question → Status → List ℕ → Type 0
SaysCached told file store q Answered text = (after : Option Files) × IsCached told after file store q ⊤ ⊤ text
SaysCached told file store q Refused text = IsRefusalOf file text
SaysCached told file store q other text = ⊥

-- the cause of a status, by whether a write failed
abbrev pub CausesOfCached : List ℕ → Type 0 → Status → Type 0
CausesOfCached file writes Answered = ⊤
CausesOfCached file writes Refused = ⊤
CausesOfCached file writes NoMemory = ⊤
CausesOfCached file writes WriteFault = writes
CausesOfCached file writes IndexTooLarge = IsTooLarge file
CausesOfCached file writes other = ⊥

-- no kept index answered
abbrev pub HasMissed : Option Files → List ℕ → List ℕ → Type 0 → Type 0
HasMissed told file store kept_reads = (why : Option Fault) × IsMissed told file store kept_reads why

-- a later fault, and an index that is too large, are said only where no kept index answered
abbrev pub LooksFirst : Option Files → List ℕ → List ℕ → Type 0 → Status → Type 0
LooksFirst told file store kept_reads Refused = ((f : Fault) × FaultsEarly file f) ⊎ HasMissed told file store kept_reads
LooksFirst told file store kept_reads IndexTooLarge = HasMissed told file store kept_reads
LooksFirst told file store kept_reads other = ⊤

-- what the text of a result says, by its status, with what the files hold then
abbrev pub SaysTied : Option Files → Option Files → List ℕ → List ℕ → Question → Type 0 → Type 0 → Status → List ℕ → Type 0
SaysTied before after file store q kept_reads stores Answered text = IsCached before after file store q kept_reads stores text
SaysTied before after file store q kept_reads stores Refused text = IsRefusalOf file text × SameFiles before after × LooksFirst before file store kept_reads Refused
SaysTied before after file store q kept_reads stores other text = ⊥

-- the files hold what they held, but for the name of the program's index: it may hold this index as it is kept, or a prefix of it
abbrev pub MayKeep : Option Files → Option Files → List ℕ → List ℕ → Type 0
MayKeep before after file store = SameFiles before after ⊎ ((id : List ℕ) × (bytes : List ℕ) × (id_of file ≡ Ok (Some id)) × IsIndexOf file bytes × StoredOrPrefix before after (cache_name store id) (kept_bytes id bytes))

-- what the files hold then
abbrev pub LeavesCached : List ℕ → List ℕ → Option Files → Option Files → Status → Type 0
LeavesCached file store before after Answered = MayKeep before after file store
LeavesCached file store before after WriteFault = MayKeep before after file store
LeavesCached file store before after other = SameFiles before after

-- the status is that of the meaning of the file, of an index that was kept, or want of memory
pub record IsCachedMeant (file : List ℕ) (status : ℕ) : Type 0 where
  pub fits : (bytes : List ℕ) → IsIndexOf file bytes → (status ≡ 0) ⊎ (status ≡ 7)
  pub too_large : IsTooLarge file → (status ≡ 0) ⊎ (status ≡ 9) ⊎ (status ≡ 7)
  pub refused_early : (f : Fault) → FaultsEarly file f → (status ≡ 1) ⊎ (status ≡ 7)
  pub refused_late : (f : Fault) → first_fault file ≡ Some f → (status ≡ 0) ⊎ (status ≡ 1) ⊎ (status ≡ 7)

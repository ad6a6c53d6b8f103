-- What becomes of a program to which its index is to be added.
use Rattle.std.specs.Prelude.{◌≡◌, ◌⊎◌, ℕ, true, false, List, [], Option, Some, Ok, ⊤}
use Rattle.ix_base.specs.declared.fault.Fault.{Fault}
use Rattle.index_model.specs.declared.job.CacheKind.{CacheKind}
use Rattle.index_model.specs.Sections.{Section}
use Rattle.index_model.specs.Cache.{Cache, DoesNotFit}
use Rattle.index_model.specs.Faults.{Built, built_of, first_fault}
use Rattle.reach_model.specs.Added.{Addition, added}
use Rattle.reach_model.specs.AddedIndex.{addition_of, is_crowded, is_indexed}
use Rattle.outside.specs.Files.{Files, SameFiles, Stored, StoredOrPrefix}
use Rattle.index_forms.specs.Forms.{kind_of}
use Rattle.index_forms.specs.declared.form.IndexForm.{IndexForm}
use Rattle.gdb_index.specs.Indexes.{index_in}
use Rattle.command_base.specs.Replies.{IsRefusalOf, OfFileBytes}
use Rattle.command_base.specs.declared.status.Status.{Status}
use Rattle.command_base.specs.declared.status.Status.TheVariants.{Answered, Refused, StoreFault, WriteFault, NoMemory, IndexRefused, IndexTooLarge, AlreadyIndexed, TooManySections}

-- ---- a program and its index

-- what holds of these bytes, which have no fault, of their sections and of their index in a form
pub record ForProgram (file : List ℕ) (form : IndexForm) (P : List ℕ → List Section → Cache → Type 0) : Type 0 where
  pub built : Built
  pub accepted : built_of file ≡ Ok built
  pub holds : P file built.program.sections (index_in form built)

-- what holds of the program with this name; where files aren't told, of some bytes
abbrev pub ForNamedProgram : Option Files → List ℕ → IndexForm → (List ℕ → List Section → Cache → Type 0) → Type 0
ForNamedProgram told name form P = OfFileBytes told name (λ bytes. ForProgram bytes form P)

-- the program has a section for an index of this kind
abbrev pub HasIndex : CacheKind → List ℕ → List Section → Cache → Type 0
HasIndex kind file sections cache = is_indexed kind sections ≡ true

-- it has none, and no room for the sections that are to be added
abbrev pub HasNoRoom : CacheKind → List ℕ → List Section → Cache → Type 0
HasNoRoom kind file sections cache = (is_indexed kind sections ≡ false) × (is_crowded kind file sections ≡ true)

-- it has room and no such section
abbrev pub HasRoom : CacheKind → List ℕ → List Section → Type 0
HasRoom kind file sections = (is_indexed kind sections ≡ false) × (is_crowded kind file sections ≡ false)

-- it has room and no such section, and the format can't hold its index
abbrev pub HasTooLarge : CacheKind → List ℕ → List Section → Cache → Type 0
HasTooLarge kind file sections cache = HasRoom kind file sections × (cache ≡ DoesNotFit)

-- what holds of the program with its index
abbrev pub OfAdded : CacheKind → (List ℕ → Type 0) → List ℕ → List Section → Cache → Type 0
OfAdded kind P file sections cache = HasRoom kind file sections × ((addition : Addition) × (addition_of cache ≡ Some addition) × P (added file sections addition))

-- ---- the command

-- nothing is said of a program that is stored; of a file with a fault, its first one
abbrev pub SaysAdd : List ℕ → Status → List ℕ → Type 0
SaysAdd file Answered text = text ≡ []
SaysAdd file Refused text = IsRefusalOf file text
SaysAdd file other text = ⊥

-- the cause of a status, by whether a store or a write failed
abbrev pub CausesOfAdd : List ℕ → IndexForm → Type 0 → Type 0 → Status → Type 0
CausesOfAdd file form stores writes Answered = ⊤
CausesOfAdd file form stores writes Refused = ⊤
CausesOfAdd file form stores writes IndexRefused = ⊤
CausesOfAdd file form stores writes NoMemory = ⊤
CausesOfAdd file form stores writes StoreFault = stores
CausesOfAdd file form stores writes WriteFault = writes
CausesOfAdd file form stores writes AlreadyIndexed = ForProgram file form (HasIndex (kind_of form))
CausesOfAdd file form stores writes TooManySections = ForProgram file form (HasNoRoom (kind_of form))
CausesOfAdd file form stores writes IndexTooLarge = ForProgram file form (HasTooLarge (kind_of form))
CausesOfAdd file form stores writes other = ⊥

-- what the shelf holds then
abbrev pub LeavesAdd : List ℕ → IndexForm → Option Files → Option Files → List ℕ → Status → Type 0
LeavesAdd file form old new out Answered = ForProgram file form (OfAdded (kind_of form) (Stored old new out))
LeavesAdd file form old new out StoreFault = ForProgram file form (OfAdded (kind_of form) (StoredOrPrefix old new out))
LeavesAdd file form old new out other = SameFiles old new

-- the status is that of the meaning of a file whose index was to be added, or want of memory
pub record IsAddMeant (file : List ℕ) (form : IndexForm) (status : ℕ) : Type 0 where
  pub indexed : ForProgram file form (HasIndex (kind_of form)) → (status ≡ 12) ⊎ (status ≡ 7)
  pub crowded : ForProgram file form (HasNoRoom (kind_of form)) → (status ≡ 13) ⊎ (status ≡ 7)
  pub too_large : ForProgram file form (HasTooLarge (kind_of form)) → (status ≡ 9) ⊎ (status ≡ 7)
  pub stored : ForProgram file form (OfAdded (kind_of form) (λ bytes. ⊤)) → (status ≡ 0) ⊎ (status ≡ 7)
  pub refused : (f : Fault) → first_fault file ≡ Some f → (status ≡ 1) ⊎ (status ≡ 7)

-- What the shelf holds once an index was stored.
use Rattle.std.specs.Prelude.{◌≡◌, ◌⊎◌, ℕ, ◌++◌, List, codes, Option, Ok, ⊤}
use Rattle.index_forms.specs.declared.form.IndexForm.{IndexForm}
use Rattle.index_model.specs.Cache.{Cache, GdbBytes, NameBytes, DoesNotFit}
use Rattle.index_model.specs.Faults.{Built, built_of}
use Rattle.outside.specs.Files.{Files, SameFiles, Stored, StoredOrPrefix}
use Rattle.gdb_index.specs.Indexes.{index_in}
use Rattle.command_base.specs.Replies.{IsTooLarge, OfFileBytes}
use Rattle.command_base.specs.declared.status.Status.{Status}
use Rattle.command_base.specs.declared.status.Status.TheVariants.{Answered, StoreFault, NoMemory, IndexTooLarge}

-- the strings that a `.debug_names` adds are stored under its own name and this end
abbrev pub strings_name : List ℕ → List ℕ
strings_name name = name ++ codes ".debug_str"

-- both names hold their bytes, the second stored behind the first
abbrev pub StoredBoth : Option Files → Option Files → List ℕ → List ℕ → List ℕ → Type 0
StoredBoth old new name names strings = (mid : Option Files) × Stored old mid name names × Stored mid new (strings_name name) strings

-- the name holds the bytes of a `.gdb_index`; or those of a `.debug_names`, and beside it stand the strings that it adds
abbrev pub Keeps : Option Files → Option Files → List ℕ → Cache → Type 0
Keeps old new name (GdbBytes bytes) = Stored old new name bytes
Keeps old new name (NameBytes names strings) = StoredBoth old new name names strings
Keeps old new name DoesNotFit = ⊥

-- the first store failed; or the second one, and the first file stays as stored
abbrev pub PartOfBoth : Option Files → Option Files → List ℕ → List ℕ → List ℕ → Type 0
PartOfBoth old new name names strings = StoredOrPrefix old new name names ⊎ ((mid : Option Files) × Stored old mid name names × StoredOrPrefix mid new (strings_name name) strings)

-- what a failed store leaves
abbrev pub KeepsPart : Option Files → Option Files → List ℕ → Cache → Type 0
KeepsPart old new name (GdbBytes bytes) = StoredOrPrefix old new name bytes
KeepsPart old new name (NameBytes names strings) = PartOfBoth old new name names strings
KeepsPart old new name DoesNotFit = ⊥

-- what holds of the index in a form of these bytes, which have no fault
pub record ForIndexOf (file : List ℕ) (form : IndexForm) (P : Cache → Type 0) : Type 0 where
  pub built : Built
  pub accepted : built_of file ≡ Ok built
  pub holds : P (index_in form built)

-- what holds of the index of the file with this name; where files aren't told, of that of some bytes
abbrev pub ForIndex : Option Files → List ℕ → IndexForm → (Cache → Type 0) → Type 0
ForIndex told file form P = OfFileBytes told file (λ bytes. ForIndexOf bytes form P)

-- what a store of this index leaves, by its status
abbrev pub StoreLeaves : Option Files → Option Files → List ℕ → Cache → Status → Type 0
StoreLeaves old new name cache Answered = Keeps old new name cache
StoreLeaves old new name cache StoreFault = KeepsPart old new name cache
StoreLeaves old new name cache other = SameFiles old new

-- memory is taken for the name under which the strings of a `.debug_names` are stored, and for nothing else
abbrev pub TakesMemory : Cache → Type 0
TakesMemory (NameBytes names strings) = ⊤
TakesMemory other = ⊥

-- the cause of a status, where an index was to be stored
abbrev pub CausesOfStore : Type 0 → Cache → Status → Type 0
CausesOfStore stores cache Answered = ⊤
CausesOfStore stores cache NoMemory = TakesMemory cache
CausesOfStore stores cache StoreFault = stores
CausesOfStore stores cache IndexTooLarge = IsTooLarge cache
CausesOfStore stores cache other = ⊥

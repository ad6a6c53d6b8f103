-- A program to which its index is being added.
use Rattle.std.specs.Prelude.{◌≡◌, ◌+◌, ℕ, Bool, true, false, not, ◌&&◌, nat_lt, List, [], ◌∷◌, codes, is_some, Some, None, ⊤}
use Rattle.index_model.specs.declared.job.CacheKind.{CacheKind}
use Rattle.index_model.specs.declared.job.CacheKind.TheVariants.{Gdb8, Gdb9, Names}
use Rattle.index_model.specs.Sections.{Section, index_named, section_count}
use Rattle.index_model.specs.Cache.{Cache, GdbBytes, NameBytes, DoesNotFit}
use Rattle.reach_model.specs.Added.{Addition, debug_str}
use Rattle.reach_model.specs.AddedIndex.{is_crowded, is_indexed, most_sections}
use Rattle.index_forms.specs.Forms.{kind_of}
use Rattle.index_forms.specs.declared.form.IndexForm.{IndexForm}
use Rattle.ix_base.specs.declared.or_memory.OrMemory.{OrMemory}
use Rattle.ix_base.specs.declared.or_memory.OrMemory.TheVariants as either
use Rattle.elf_add.specs.declared.adder.NoRoom.{NoRoom}
use Rattle.elf_add.specs.declared.adder.NoRoom.TheVariants as adds
use Rattle.store_commands.specs.Adds.{ForProgram, HasIndex, HasNoRoom, HasTooLarge}
use Rattle.store_commands.specs.declared.program.NotAdded.{NotAdded}
use Rattle.store_commands.specs.declared.program.NotAdded.TheVariants as stops

-- nothing is added yet
abbrev pub nothing : Addition
nothing = record { sections = []; strings = None }

-- one section
abbrev pub one_section : List ℕ → List ℕ → Addition
one_section name bytes = record { sections = record { name = name; content = bytes } ∷ []; strings = None }

-- the section of a `.gdb_index`
abbrev pub gdb_section : List ℕ → Addition
gdb_section bytes = one_section (codes ".gdb_index") bytes

-- the section of a `.debug_names`, and its strings
abbrev pub names_section : List ℕ → List ℕ → Addition
names_section names strings = record { sections = record { name = codes ".debug_names"; content = names } ∷ []; strings = Some strings }

-- what is added for an index of a kind; one that its format can't hold stands as one of no bytes
abbrev pub staged : CacheKind → Cache → Addition
staged kind (GdbBytes bytes) = gdb_section bytes
staged kind (NameBytes names strings) = names_section names strings
staged Gdb8 DoesNotFit = gdb_section []
staged Gdb9 DoesNotFit = gdb_section []
staged Names DoesNotFit = names_section [] []

-- the index has this kind
abbrev pub FitsKind : CacheKind → Cache → Type 0
FitsKind Gdb8 (GdbBytes bytes) = ⊤
FitsKind Gdb9 (GdbBytes bytes) = ⊤
FitsKind Names (GdbBytes bytes) = ⊥
FitsKind Gdb8 (NameBytes names strings) = ⊥
FitsKind Gdb9 (NameBytes names strings) = ⊥
FitsKind Names (NameBytes names strings) = ⊤
FitsKind kind DoesNotFit = ⊤

-- the index in this form of these bytes, which have no fault
abbrev pub IsIndexOf : List ℕ → IndexForm → Cache → Type 0
IsIndexOf file form cache = ForProgram file form (λ f sections c. cache ≡ c)

-- ---- why it stopped

-- an adder's reason as the command's
abbrev pub reason : OrMemory NoRoom → NotAdded
reason (either.Cause adds.Present) = stops.Present
reason (either.Cause adds.TooMany) = stops.TooMany
reason either.Memory = stops.Memory

-- the program has a section of this name
abbrev pub is_there : List Section → List ℕ → Bool
is_there sections name = is_some (index_named sections name)

-- it has no room for so many more
abbrev pub is_full_with : ℕ → List ℕ → Bool
is_full_with n file = nat_lt most_sections (section_count file + n)

-- the name of the first section that is added forbids it, or the number
abbrev pub SectionStops : List ℕ → List Section → List ℕ → NotAdded → Type 0
SectionStops file sections name stops.Present = is_there sections name ≡ true
SectionStops file sections name stops.TooMany = (is_there sections name ≡ false) × (is_full_with 1 file ≡ true)
SectionStops file sections name stops.TooLarge = ⊥
SectionStops file sections name stops.Memory = ⊤

-- the first section has a new name, and there is room for it
abbrev pub HasRoomForOne : List ℕ → List Section → List ℕ → Type 0
HasRoomForOne file sections name = (is_there sections name ≡ false) × (is_full_with 1 file ≡ false)

-- there is no room for the `.debug_str` that has to be added behind it
abbrev pub lacks_strings : List ℕ → List Section → Bool
lacks_strings file sections = not (is_there sections debug_str) && is_full_with 2 file

-- the number of sections forbids strings
abbrev pub StringsStop : List ℕ → List Section → NotAdded → Type 0
StringsStop file sections stops.Present = ⊥
StringsStop file sections stops.TooMany = lacks_strings file sections ≡ true
StringsStop file sections stops.TooLarge = ⊥
StringsStop file sections stops.Memory = ⊥

-- the sections of the program forbid it
abbrev pub FillStops : CacheKind → List ℕ → List Section → NotAdded → Type 0
FillStops kind file sections stops.Present = is_indexed kind sections ≡ true
FillStops kind file sections stops.TooMany = (is_indexed kind sections ≡ false) × (is_crowded kind file sections ≡ true)
FillStops kind file sections stops.TooLarge = ⊥
FillStops kind file sections stops.Memory = ⊤

-- the format can't hold the index; memory is taken where it can
abbrev pub FinishStops : Cache → NotAdded → Type 0
FinishStops cache stops.Present = ⊥
FinishStops cache stops.TooMany = ⊥
FinishStops cache stops.TooLarge = cache ≡ DoesNotFit
FinishStops cache stops.Memory = cache ≡ DoesNotFit → ⊥

-- the program forbids it
abbrev pub AddStops : List ℕ → IndexForm → NotAdded → Type 0
AddStops file form stops.Present = ForProgram file form (HasIndex (kind_of form))
AddStops file form stops.TooMany = ForProgram file form (HasNoRoom (kind_of form))
AddStops file form stops.TooLarge = ForProgram file form (HasTooLarge (kind_of form))
AddStops file form stops.Memory = ⊤

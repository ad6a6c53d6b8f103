-- What is written of what was asked, and when each status comes.
use Rattle.std.specs.Prelude.{◌≡◌, ◌⊎◌, ℕ, List, [], Option, Some, None, ⊤}
use Rattle.ix_base.specs.declared.limits.TheConstants.{MAX_FILE_BYTES}
use Rattle.elf_make.specs.Generated.{generated_file}
use Rattle.outside.specs.Files.{Files}
use Rattle.outside.specs.Written.{Appends, AppendsPrefix}
use Rattle.command_base.specs.FilesRead.{HoldsMore}
use Rattle.command_base.specs.Replies.{IsAnswerOf, IsRefusalOf, OfFileBytes, IsTooLarge, IsMeant, OfWholeFile, line_of}
use Rattle.command_base.specs.declared.status.Status.{Status}
use Rattle.command_base.specs.declared.status.Status.TheVariants.{Answered, Refused, Usage, ReadFault, StoreFault, WriteFault, InputFault, NoMemory, IndexRefused, TableRefused, IndexTooLarge, FileTooBig, AlreadyIndexed, TooManySections, InputTooLong, Stopped}
use Rattle.command_base.specs.Tables.{IsTableMeant}
use Rattle.command_base.specs.declared.status.RefusedTable.{RefusedTable}
use Rattle.command_base.specs.declared.status.RefusedTable.TheVariants.{Addresses, Lines}
use Rattle.aranges_command.specs.Comparisons.{IsArangesRefusalOf, IsComparisonOf, sets_of}
use Rattle.cached_command.specs.Cached.{IsCachedMeant, SaysCached}
use Rattle.cached_command.specs.Caches.{IsTooLarge as KeepsTooLarge}
use Rattle.files_command.specs.Listings.{IsListingOf, IsFilesRefusalOf, found_by}
use Rattle.drill_command.specs.Drills.{HasTooLarge}
use Rattle.command_base.specs.GdbLooks.{IsGdbAnswerOf, IsGdbRefusalOf, IsLookMeant}
use Rattle.store_commands.specs.Indexes.{IsIndexMeant}
use Rattle.index_commands.specs.NamesLooks.{IsNamesAnswerOf, IsNamesMeant, IsNamesRefusalOf}
use Rattle.store_commands.specs.Stores.{ForIndex}
use Rattle.store_commands.specs.Adds.{ForNamedProgram, HasIndex, HasNoRoom, HasTooLarge as AddsTooLarge, IsAddMeant}
use Rattle.index_forms.specs.Forms.{kind_of}
use Rattle.index_cmd.specs.Requests.{Request, TheHelp, TheVersion, OfFile, OfIndex, OfAdd, OfGdb, OfNames, OfServe, OfRace, OfDrill, OfAranges, OfFiles, OfCached, AsksFile, AsksProgram, AsksIndex}
use Rattle.index_cmd.specs.declared.about.TheConstants as about

-- ---- texts

-- the text answers what was asked of a file or an index; that of a stored index or program is empty
abbrev pub IsAnswer : Option Request → Option Files → List ℕ → Type 0
IsAnswer None told text = ⊥
IsAnswer (Some TheHelp) told text = text ≡ about.HELP.now
IsAnswer (Some TheVersion) told text = text ≡ about.VERSION.now
IsAnswer (Some (OfFile file q)) told text = OfFileBytes told file (λ bytes. IsAnswerOf bytes q text)
IsAnswer (Some (OfIndex form file out)) told text = text ≡ []
IsAnswer (Some (OfAdd form file out)) told text = text ≡ []
IsAnswer (Some (OfGdb index q)) told text = OfFileBytes told index (λ bytes. IsGdbAnswerOf bytes q text)
IsAnswer (Some (OfNames look index strings name)) told text = OfFileBytes told index (λ bytes. OfFileBytes told strings (λ held. IsNamesAnswerOf bytes held look name text))
IsAnswer (Some (OfServe how file)) told text = ⊥
IsAnswer (Some (OfRace how file script)) told text = ⊥
IsAnswer (Some (OfDrill seed units)) told text = ⊥
IsAnswer (Some (OfAranges file)) told text = OfFileBytes told file (λ bytes. IsComparisonOf bytes text)
IsAnswer (Some (OfFiles file name)) told text = OfFileBytes told file (λ bytes. IsListingOf bytes name text)
IsAnswer (Some (OfCached file store q)) told text = OfFileBytes told file (λ bytes. SaysCached told bytes store q Answered text)

-- the text is that of the first fault of the file that was asked
abbrev pub IsRefusal : Option Request → Option Files → List ℕ → Type 0
IsRefusal request told text = AsksProgram request (λ file. OfFileBytes told file (λ bytes. IsRefusalOf bytes text))

-- the text is that of the first fault of the index that was asked
abbrev pub IsIndexRefusal : Option Request → Option Files → List ℕ → Type 0
IsIndexRefusal (Some (OfGdb index q)) told text = OfFileBytes told index (λ bytes. IsGdbRefusalOf bytes text)
IsIndexRefusal (Some (OfNames look index strings name)) told text = OfFileBytes told index (λ bytes. OfFileBytes told strings (λ held. IsNamesRefusalOf bytes held look text))
IsIndexRefusal other told text = ⊥

-- the text is that of the first fault of the table that was asked
abbrev pub IsTableRefusal : Option Request → RefusedTable → Option Files → List ℕ → Type 0
IsTableRefusal (Some (OfAranges file)) Addresses told text = OfFileBytes told file (λ bytes. IsArangesRefusalOf bytes text)
IsTableRefusal (Some (OfFiles file name)) Lines told text = OfFileBytes told file (λ bytes. IsFilesRefusalOf bytes name text)
IsTableRefusal other table told text = ⊥

-- ---- results

-- what the text of a result says, by its status, of what was asked
abbrev pub SaysRequest : Option Request → Option Files → Status → List ℕ → Type 0
SaysRequest request told Answered text = IsAnswer request told text
SaysRequest request told Refused text = IsRefusal request told text
SaysRequest request told IndexRefused text = IsIndexRefusal request told text
SaysRequest request told (TableRefused table) text = IsTableRefusal request table told text
SaysRequest request told other text = ⊥

-- ---- statuses

-- an index that was asked for, or was to be added, doesn't fit its format
abbrev pub MakesTooLarge : Option Request → Option Files → Type 0
MakesTooLarge (Some (OfIndex form file out)) told = ForIndex told file form IsTooLarge
MakesTooLarge (Some (OfAdd form file out)) told = ForNamedProgram told file form (AddsTooLarge (kind_of form))
MakesTooLarge (Some (OfCached file store q)) told = OfFileBytes told file KeepsTooLarge
MakesTooLarge (Some (OfDrill seed units)) told = HasTooLarge (generated_file seed units)
MakesTooLarge other told = ⊥

-- the program to which an index was to be added has a section for one
abbrev pub IsAlreadyIndexed : Option Request → Option Files → Type 0
IsAlreadyIndexed (Some (OfAdd form file out)) told = ForNamedProgram told file form (HasIndex (kind_of form))
IsAlreadyIndexed other told = ⊥

-- it has none, and no room for the sections that are to be added
abbrev pub HasTooManySections : Option Request → Option Files → Type 0
HasTooManySections (Some (OfAdd form file out)) told = ForNamedProgram told file form (HasNoRoom (kind_of form))
HasTooManySections other told = ⊥

-- the cause of a status that isn't a result, by what was asked, the files, and whether a read, a store or a write failed
abbrev pub Causes : Option Request → Option Files → Type 0 → Type 0 → Type 0 → Status → Type 0
Causes request told reads stores writes Answered = ⊤
Causes request told reads stores writes Refused = ⊤
Causes request told reads stores writes IndexRefused = ⊤
Causes request told reads stores writes (TableRefused table) = ⊤
Causes request told reads stores writes NoMemory = ⊤
Causes request told reads stores writes InputFault = ⊤
Causes request told reads stores writes InputTooLong = ⊤
Causes request told reads stores writes Stopped = ⊤
Causes request told reads stores writes Usage = request ≡ None
Causes request told reads stores writes ReadFault = AsksFile request (λ _ _. reads)
Causes request told reads stores writes StoreFault = AsksIndex request (λ _ _ _. stores)
Causes request told reads stores writes WriteFault = writes
Causes request told reads stores writes IndexTooLarge = MakesTooLarge request told
Causes request told reads stores writes FileTooBig = AsksFile request (HoldsMore told)
Causes request told reads stores writes AlreadyIndexed = IsAlreadyIndexed request told
Causes request told reads stores writes TooManySections = HasTooManySections request told

-- a status without a line, after which nothing more is written; one with its line; or the line wasn't written whole
pub data Ends (status : Status) (old new : Option (List ℕ)) (failed : Type 0) : Status → Type 0 where
  without_line : line_of status ≡ None → old ≡ new → Ends status old new failed status
  with_line : (text : List ℕ) → line_of status ≡ Some text → Appends old new text → Ends status old new failed status
  cut : (text : List ℕ) → line_of status ≡ Some text → failed → AppendsPrefix old new text → Ends status old new failed WriteFault

-- Where nothing failed, the status is that of what was asked, or want of memory: of a file within the limit, that of its meaning.
-- Of sessions and of generated programs nothing is said here.
abbrev pub IsComplete : Option Request → Option Files → Type 0 → Type 0 → Type 0 → ℕ → Type 0
IsComplete None told reads stores writes status = (writes → ⊥) → (status ≡ 2) ⊎ (status ≡ 7)
IsComplete (Some TheHelp) told reads stores writes status = (writes → ⊥) → (status ≡ 0) ⊎ (status ≡ 7)
IsComplete (Some TheVersion) told reads stores writes status = (writes → ⊥) → (status ≡ 0) ⊎ (status ≡ 7)
IsComplete (Some (OfFile file q)) told reads stores writes status = OfWholeFile MAX_FILE_BYTES told file reads writes (λ bytes. IsMeant bytes status)
IsComplete (Some (OfIndex form file out)) told reads stores writes status = OfWholeFile MAX_FILE_BYTES told file reads writes (λ bytes. (stores → ⊥) → IsIndexMeant bytes form status)
IsComplete (Some (OfAdd form file out)) told reads stores writes status = OfWholeFile MAX_FILE_BYTES told file reads writes (λ bytes. (stores → ⊥) → IsAddMeant bytes form status)
IsComplete (Some (OfGdb index q)) told reads stores writes status = OfWholeFile MAX_FILE_BYTES told index reads writes (λ bytes. IsLookMeant bytes status)
IsComplete (Some (OfNames look index strings name)) told reads stores writes status = OfWholeFile MAX_FILE_BYTES told index reads writes (λ bytes. OfWholeFile MAX_FILE_BYTES told strings reads writes (λ held. IsNamesMeant bytes held look status))
IsComplete (Some (OfAranges file)) told reads stores writes status = OfWholeFile MAX_FILE_BYTES told file reads writes (λ bytes. IsTableMeant bytes sets_of 14 status)
IsComplete (Some (OfFiles file name)) told reads stores writes status = OfWholeFile MAX_FILE_BYTES told file reads writes (λ bytes. IsTableMeant bytes (found_by name) 15 status)
IsComplete (Some (OfCached file store q)) told reads stores writes status = OfWholeFile MAX_FILE_BYTES told file reads writes (λ bytes. IsCachedMeant bytes status)
IsComplete (Some (OfServe how file)) told reads stores writes status = ⊤
IsComplete (Some (OfRace how file script)) told reads stores writes status = ⊤
IsComplete (Some (OfDrill seed units)) told reads stores writes status = ⊤

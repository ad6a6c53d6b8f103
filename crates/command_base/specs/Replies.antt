-- What a command writes, and when each status comes.
use Rattle.std.specs.Prelude.{◌≡◌, ◌⊎◌, ℕ, ◌≤◌, List, [], ◌∷◌, length, codes, Option, Some, None, Result, Ok, Err, ⊤}
use Rattle.ix_base.specs.declared.fault.Fault.{Fault}
use Rattle.ix_base.specs.declared.limits.TheConstants.{MAX_FILE_BYTES}
use Rattle.index_model.specs.declared.job.CacheKind.TheVariants.{Gdb8}
use Rattle.index_model.specs.Answers.{Reply, Answered as Replied, Refused as Refuses, answer_to}
use Rattle.index_model.specs.Cache.{Cache, DoesNotFit, size_in}
use Rattle.index_model.specs.Faults.{Built, built_of, first_fault, IsAccepted}
use Rattle.query_text.specs.Questions.{Question}
use Rattle.query_text.specs.Spelled.{answer_in}
use Rattle.index_model.specs.Texts.{line, text_of_answer, text_of_fault}
use Rattle.outside.specs.declared.shelf.Failed.{Failed}
use Rattle.outside.specs.Files.{Files}
use Rattle.outside.specs.Written.{Appends, AppendsPrefix}
use Rattle.command_base.specs.FilesRead.{Holds}
use Rattle.command_base.specs.declared.status.Status.{Status}
use Rattle.command_base.specs.declared.status.Status.TheVariants.{Answered, Refused, Usage, ReadFault, StoreFault, WriteFault, InputFault, NoMemory, IndexRefused, TableRefused, IndexTooLarge, FileTooBig, AlreadyIndexed, TooManySections, InputTooLong, Stopped}

-- ---- texts

-- the text is that of the answer of these bytes, which have no fault
pub record IsAnswerOf (file : List ℕ) (q : Question) (text : List ℕ) : Type 0 where
  pub built : Built
  pub accepted : built_of file ≡ Ok built
  pub text_is : text ≡ text_of_answer (answer_in q.spelling (answer_to built (size_in Gdb8 (Ok built)) q.query))

-- the text is that of the first fault of these bytes
pub record IsRefusalOf (file text : List ℕ) : Type 0 where
  pub fault : Fault
  pub first : first_fault file ≡ Some fault
  pub text_is : text ≡ text_of_fault fault

-- the file with this name holds such bytes, at most so many; where files aren't told there are such bytes
abbrev pub OfBytesUpTo : ℕ → Option Files → List ℕ → (List ℕ → Type 0) → Type 0
OfBytesUpTo most told file P = (bytes : List ℕ) × Holds told file bytes × (length bytes ≤ most) × P bytes

-- the same, within the limit of a program, of an index and of its strings
abbrev pub OfFileBytes : Option Files → List ℕ → (List ℕ → Type 0) → Type 0
OfFileBytes told file P = OfBytesUpTo MAX_FILE_BYTES told file P

-- ---- results

-- what the text of a result says, by its status: over the bytes of a file, and by a reply
abbrev pub SaysFile : List ℕ → Question → Status → List ℕ → Type 0
SaysFile file q Answered text = IsAnswerOf file q text
SaysFile file q Refused text = IsRefusalOf file text
SaysFile file q other text = ⊥

abbrev pub SaysReply : Reply → Status → List ℕ → Type 0
SaysReply (Replied a) Answered text = text ≡ text_of_answer a
SaysReply (Refuses f) Refused text = text ≡ text_of_fault f
SaysReply reply status text = ⊥

-- the text that was appended meets this
abbrev pub Writes : Option (List ℕ) → Option (List ℕ) → (List ℕ → Type 0) → Type 0
Writes old new P = (text : List ℕ) × P text × Appends old new text

-- a prefix of the text of a result was appended
abbrev pub PrefixOf : (Status → List ℕ → Type 0) → Option (List ℕ) → Option (List ℕ) → Type 0
PrefixOf Says old new = (status : Status) × (text : List ℕ) × Says status text × AppendsPrefix old new text

-- the status once a result was to be written
abbrev pub status_after : {X : Type 0} → Result X Failed → Status → Status
status_after (Ok x) status = status
status_after (Err e) status = WriteFault

-- the status of a reply that is written whole; a build that gave none was refused memory
abbrev pub status_of_reply : Reply → Status
status_of_reply (Replied a) = Answered
status_of_reply (Refuses f) = Refused
status_of_reply other = NoMemory

-- what was appended before a status's own line: the text of a result, a prefix of one, or nothing
abbrev pub Wrote : (Status → List ℕ → Type 0) → Status → Option (List ℕ) → Option (List ℕ) → Type 0
Wrote Says Answered old new = Writes old new (Says Answered)
Wrote Says Refused old new = Writes old new (Says Refused)
Wrote Says IndexRefused old new = Writes old new (Says IndexRefused)
Wrote Says (TableRefused table) old new = Writes old new (Says (TableRefused table))
Wrote Says WriteFault old new = PrefixOf Says old new
Wrote Says InputFault old new = Writes old new (Says InputFault)
Wrote Says InputTooLong old new = Writes old new (Says InputTooLong)
Wrote Says Stopped old new = (text : List ℕ) × Says Stopped text × AppendsPrefix old new text
Wrote Says Usage old new = Appends old new []
Wrote Says ReadFault old new = Appends old new []
Wrote Says StoreFault old new = Appends old new []
Wrote Says NoMemory old new = Appends old new []
Wrote Says IndexTooLarge old new = Appends old new []
Wrote Says FileTooBig old new = Appends old new []
Wrote Says AlreadyIndexed old new = Appends old new []
Wrote Says TooManySections old new = Appends old new []

-- ---- statuses

-- the format can't hold the index
abbrev pub IsTooLarge : Cache → Type 0
IsTooLarge cache = cache ≡ DoesNotFit

-- the cause of a status, where a result was to be written
abbrev pub CausesOfResult : Type 0 → Status → Type 0
CausesOfResult writes Answered = ⊤
CausesOfResult writes Refused = ⊤
CausesOfResult writes IndexRefused = ⊤
CausesOfResult writes NoMemory = ⊤
CausesOfResult writes WriteFault = writes
CausesOfResult writes other = ⊥

-- the line of a status that isn't a result
abbrev pub line_of : Status → Option (List ℕ)
line_of Usage = Some (line (codes "usage" ∷ []))
line_of ReadFault = Some (line (codes "read" ∷ codes "fault" ∷ []))
line_of StoreFault = Some (line (codes "store" ∷ codes "fault" ∷ []))
line_of NoMemory = Some (line (codes "no" ∷ codes "memory" ∷ []))
line_of IndexTooLarge = Some (line (codes "too" ∷ codes "large" ∷ []))
line_of FileTooBig = Some (line (codes "file" ∷ codes "too" ∷ codes "big" ∷ []))
line_of AlreadyIndexed = Some (line (codes "already" ∷ codes "indexed" ∷ []))
line_of TooManySections = Some (line (codes "too" ∷ codes "many" ∷ codes "sections" ∷ []))
line_of Answered = None
line_of Refused = None
line_of IndexRefused = None
line_of (TableRefused table) = None
line_of WriteFault = None
line_of InputFault = None
line_of InputTooLong = None
line_of Stopped = None

-- the status is that of the file's meaning, or want of memory
pub record IsMeant (file : List ℕ) (status : ℕ) : Type 0 where
  pub answered : IsAccepted file → (status ≡ 0) ⊎ (status ≡ 7)
  pub refused : (f : Fault) → first_fault file ≡ Some f → (status ≡ 1) ⊎ (status ≡ 7)

-- what holds of the bytes of the file with this name, which is told and within a limit, where nothing failed
abbrev pub OfWholeFile : ℕ → Option Files → List ℕ → Type 0 → Type 0 → (List ℕ → Type 0) → Type 0
OfWholeFile most None file reads writes P = ⊤
OfWholeFile most (Some files) file reads writes P = (bytes : List ℕ) → files file ≡ Some bytes → length bytes ≤ most → (reads → ⊥) → (writes → ⊥) → P bytes

-- What a command did before the line of its status.
use Rattle.std.specs.Prelude.{◌≡◌, ◌≤◌, ℕ, List, length, Option, ⊤}
use Rattle.ix_base.specs.declared.limits.TheConstants.{MAX_FILE_BYTES}
use Rattle.outside.specs.Files.{Files, SameFiles}
use Rattle.outside.specs.declared.shelf.Shelf.{Ghosts as OfShelf}
use Rattle.command_base.specs.FilesRead.{Holds, HoldsMore}
use Rattle.command_base.specs.Replies.{OfBytesUpTo, Wrote}
use Rattle.command_base.specs.declared.status.Status.{Status}
use Rattle.command_base.specs.declared.status.Status.TheVariants.{Answered, Refused, ReadFault, WriteFault, NoMemory, IndexRefused, FileTooBig, InputTooLong, Stopped}
use Rattle.session_base.specs.Heard.{Heard}
use Rattle.index_cmd.specs.Caching.{UsesKept}
use Rattle.index_cmd.specs.Replies.{Causes}
use Rattle.index_cmd.specs.Requests.{Request}
use Rattle.index_cmd.specs.Results.{Says}
use Rattle.index_cmd.specs.Runs.{Run, LeavesInput}
use Rattle.index_cmd.specs.Stores.{Leaves}

-- what was written, the cause of the status, and what the shelf holds
pub record Does (request : Option Request) (told shelf : Option Files) (heard : Heard) (reads stores writes : Type 0) (old new : Option (List ℕ)) (status : Status) : Type 0 where
  pub wrote : Wrote (Says request told heard) status old new
  pub causes : Causes request told reads stores writes status
  pub leaves : Leaves request told shelf status

-- the same of a run, with what it says of an index that may be kept, and the input where that isn't read
pub record Did (run : Run) (status : Status) : Type 0 where
  pub does : Does run.request run.files_before run.files_after run.heard run.read_failed run.store_failed run.write_failed run.written_before run.written_after status
  pub uses : UsesKept run.request run.files_before run.files_after run.kept_failed run.store_failed run.written_before run.written_after status
  pub input : LeavesInput run.request status → run.input_untouched

-- The file with this name was read and holds these bytes, which are within its limit; the shelf holds what it held before, and counts
-- no fault but of reads.
pub record WasRead {F : Type 0} (shelf : OfShelf F) (before after : F) (file bytes : List ℕ) : Type 0 where
  pub same : SameFiles (shelf.files before) (shelf.files after)
  pub holds : Holds (shelf.files before) file bytes
  pub small : length bytes ≤ MAX_FILE_BYTES
  pub reads_on : shelf.read_faults before ≤ shelf.read_faults after
  pub stores_stay : shelf.store_faults after ≡ shelf.store_faults before
  pub kept_stay : shelf.kept_faults after ≡ shelf.kept_faults before

-- ---- where a second file is read

-- what the text says of its bytes, which are at most so many
abbrev pub SaysBeside : Option Files → List ℕ → ℕ → (List ℕ → Status → List ℕ → Type 0) → Status → List ℕ → Type 0
SaysBeside told file most Meaning status text = OfBytesUpTo most told file (λ held. Meaning held status text)

-- the cause of a status, by the most bytes that it may have and whether a read or a write failed
abbrev pub CausesBeside : Option Files → List ℕ → ℕ → Type 0 → Type 0 → Status → Type 0
CausesBeside told file most reads writes Answered = ⊤
CausesBeside told file most reads writes Refused = ⊤
CausesBeside told file most reads writes IndexRefused = ⊤
CausesBeside told file most reads writes NoMemory = ⊤
CausesBeside told file most reads writes InputTooLong = ⊤
CausesBeside told file most reads writes Stopped = ⊤
CausesBeside told file most reads writes ReadFault = reads
CausesBeside told file most reads writes FileTooBig = HoldsMore told file most
CausesBeside told file most reads writes WriteFault = writes
CausesBeside told file most reads writes other = ⊥

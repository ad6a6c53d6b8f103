-- What one call of `run` is promised to have done, by the status that it came to.
use Rattle.std.specs.Prelude.{◌≡◌, ◌⊎◌, ℕ, List, Option, None, MatchOption, ⊤}
use Rattle.outside.specs.Counts.{Rose}
use Rattle.outside.specs.Files.{Files, SameFiles}
use Rattle.outside.specs.Written.{Appends, AppendsPrefix}
use Rattle.outside.specs.declared.shelf.Shelf.{Ghosts as OfShelf}
use Rattle.outside.specs.declared.sink.Sink.{Ghosts as OfSink}
use Rattle.outside.specs.declared.source.Source.{Ghosts as OfSource}
use Rattle.command_base.specs.Replies.{Writes, line_of}
use Rattle.command_base.specs.Statuses.{status_code}
use Rattle.command_base.specs.declared.status.Status.{Status}
use Rattle.command_base.specs.declared.status.Status.TheVariants.{Usage, ReadFault, WriteFault, NoMemory, FileTooBig, Stopped}
use Rattle.session_base.specs.Heard.{Heard, heard}
use Rattle.index_cmd.specs.Caching.{UsesKept}
use Rattle.index_cmd.specs.Replies.{Causes}
use Rattle.index_cmd.specs.Requests.{Request, ReadsNoInput, StoresNothing}
use Rattle.index_cmd.specs.Results.{Completes, Says, WritesPrefix}
use Rattle.index_cmd.specs.Stores.{LeavesAtEnd}

-- ---- a run

-- What was asked; what the shelf tells of its files, the input of what it gave and the output of what it took, before the run and behind
-- it; whether a read, a store, a read of an index that was kept or a write failed; and that the input is as it was.
pub record Run : Type 1 where
  pub request : Option Request
  pub files_before : Option Files
  pub files_after : Option Files
  pub heard : Heard
  pub written_before : Option (List ℕ)
  pub written_after : Option (List ℕ)
  pub read_failed : Type 0
  pub store_failed : Type 0
  pub kept_failed : Type 0
  pub write_failed : Type 0
  pub input_untouched : Type 0

-- the run that found and left a shelf, an input and an output so
abbrev pub ran : {F S K : Type 0} → OfShelf F → OfSource S → OfSink K → Option Request → F → F → S → S → K → K → Run
ran shelf source sink request shelf_old shelf_new input_old input_new out_old out_new =
    record {
      request = request;
      files_before = shelf.files shelf_old;
      files_after = shelf.files shelf_new;
      heard = heard source.left source.read_faults input_old input_new;
      written_before = sink.written out_old;
      written_after = sink.written out_new;
      read_failed = Rose (shelf.read_faults shelf_old) (shelf.read_faults shelf_new);
      store_failed = Rose (shelf.store_faults shelf_old) (shelf.store_faults shelf_new);
      kept_failed = Rose (shelf.kept_faults shelf_old) (shelf.kept_faults shelf_new);
      write_failed = Rose (sink.write_faults out_old) (sink.write_faults out_new);
      input_untouched = input_new ≡ input_old;
    }

-- ---- what is promised of it

-- What was appended to the output. Where a write failed: a prefix of what any status writes. Where sessions were refused memory: a
-- prefix of their transcripts, up to where they stopped. Else the line of the status, or the text of a result, which has none.
abbrev pub HasWritten : Run → Status → Type 0
HasWritten run WriteFault = WritesPrefix run.request run.files_before run.heard run.written_before run.written_after
HasWritten run Stopped = (text : List ℕ) × Says run.request run.files_before run.heard Stopped text × AppendsPrefix run.written_before run.written_after text
HasWritten run status = MatchOption (line_of status) (Writes run.written_before run.written_after (Says run.request run.files_before run.heard status)) (Appends run.written_before run.written_after)

-- the input isn't read by a command that has no need of it, nor where a file couldn't be read or is too big
abbrev pub LeavesInput : Option Request → Status → Type 0
LeavesInput request ReadFault = ⊤
LeavesInput request FileTooBig = ⊤
LeavesInput request status = ReadsNoInput request

-- What holds of a run that came to this status.
pub record CameTo (run : Run) (status : Status) : Type 0 where
  -- what goes with the status was written, and nothing else
  pub wrote : HasWritten run status
  -- why; a result needs no cause, and want of memory has none
  pub causes : Causes run.request run.files_before run.read_failed run.store_failed run.write_failed status
  -- the other way round: of a file within the limit, where nothing outside failed, what it comes to, but for want of memory
  pub complete : Completes run.request run.files_before run.heard run.read_failed run.store_failed run.write_failed (status_code status)
  pub outside_grammar : run.request ≡ None → (status ≡ Usage) ⊎ (status ≡ WriteFault) ⊎ (status ≡ NoMemory)
  -- what was stored, wholly or in part, and nothing else
  pub stored : LeavesAtEnd run.request run.files_before run.files_after run.store_failed status
  pub kept : StoresNothing run.request → SameFiles run.files_before run.files_after
  -- an answer is that of a kept index, or of the one that was built; what is wrong with the rest is said only where no kept one answered
  pub cached : UsesKept run.request run.files_before run.files_after run.kept_failed run.store_failed run.written_before run.written_after status
  pub input : LeavesInput run.request status → run.input_untouched

-- the number of a status that the run came to
abbrev pub EndsWith : Run → ℕ → Type 0
EndsWith run number = (status : Status) × (number ≡ status_code status) × CameTo run status

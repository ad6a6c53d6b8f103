-- What is said of line tables that were searched, and of their file.
use Rattle.std.proofs.Common.{◌≡◌, ℕ, List, Option, Some, None, Result, Ok, Err, refl, ap, subst}
use Rattle.std.specs.Prelude.{IfSome}
use Rattle.ix_base.specs.declared.fault.Fault.{Fault}
use Rattle.index_model.specs.declared.job.Job.TheVariants.{Main}
use Rattle.index_model.specs.Answers.{Refused as Refuses}
use Rattle.index_model.specs.Faults.{Built, built_of, first_fault, IsAccepted}
use Rattle.index_model.specs.MainProgram.{main_of}
use Rattle.index_model.specs.Meaning.{wrong_in}
use Rattle.index_model.specs.Outputs.{Makes, Summary, SummaryOf}
use Rattle.index_model.specs.Pieces.{IsPieces}
use Rattle.index_board.specs.Kept.{AreOf}
use Rattle.index_board.specs.Readers.{Reader}
use Rattle.index_pool.proofs.Lists.{ok_and}
use Rattle.reach_model.specs.LineTables.{FileHit}
use Rattle.command_base.specs.Replies.{SaysReply, Wrote}
use Rattle.command_base.specs.declared.status.Status.{Status}
use Rattle.command_base.specs.declared.status.Status.TheVariants.{Answered, Refused, Usage, ReadFault, StoreFault, WriteFault, NoMemory, IndexRefused, TableRefused, IndexTooLarge, FileTooBig, AlreadyIndexed, TooManySections, InputFault, InputTooLong, Stopped}
use Rattle.command_base.specs.declared.status.RefusedTable.TheVariants.{Addresses, Lines}
use Rattle.command_base.proofs.ReplyLaws.{wrote_refused, wrote_weaker}
use Rattle.files_command.specs.Listed.{SaysFault, SaysHits}
use Rattle.files_command.specs.Listings.{SaysFiles, found_by}

-- ---- a file without a fault

accepted : (file : List ℕ) (b : Built) → built_of file ≡ Ok b → IsAccepted file
accepted file b is = ap wrong_in is

-- what is built of it
built : (file : List ℕ) → IsAccepted file → (b : Built) × (built_of file ≡ Ok b)
built file none = by (built_of file) refl none
  where
    by : (r : Result Built Fault) → built_of file ≡ r → wrong_in r ≡ None → (b : Built) × (built_of file ≡ Ok b)
    by (Ok b) is none = (b, is)
    by (Err f) is none = absurd (cc none)

-- a reader that keeps a summary keeps that of such a file
pub kept_accepted : (r : Reader) → AreOf r.board.subject r.kept → (m : Summary) → r.kept.summary ≡ Some m → IsAccepted r.board.subject.file
kept_accepted r right m is =
    let makes : Makes r.board.subject Main (SummaryOf m) = subst (λ (o : Option Summary). IfSome o (λ m. Makes r.board.subject Main (SummaryOf m))) is right.summary in
    let b = ok_and (built_of r.board.subject.file) (λ b. (m.main ≡ main_of b.program b.links) × IsPieces b.ranges m.map) makes in
    accepted r.board.subject.file b.0 b.1

-- ---- what is said of its tables

module _ (file name : List ℕ) (none : IsAccepted file) where
  module _ (hits : List FileHit) (read : (b : Built) → built_of file ≡ Ok b → found_by name b ≡ Ok hits) where
    says_hits : (status : Status) (text : List ℕ) → SaysHits hits status text → SaysFiles file name status text
    says_hits Answered text h = let b = built file none in record { built = b.0; accepted = b.1; holds = (hits, read b.0 b.1, h) }
    says_hits Refused text h = absurd h
    says_hits Usage text h = absurd h
    says_hits ReadFault text h = absurd h
    says_hits StoreFault text h = absurd h
    says_hits WriteFault text h = absurd h
    says_hits NoMemory text h = absurd h
    says_hits IndexRefused text h = absurd h
    says_hits (TableRefused table) text h = absurd h
    says_hits IndexTooLarge text h = absurd h
    says_hits FileTooBig text h = absurd h
    says_hits AlreadyIndexed text h = absurd h
    says_hits TooManySections text h = absurd h
    says_hits InputFault text h = absurd h
    says_hits InputTooLong text h = absurd h
    says_hits Stopped text h = absurd h

    pub wrote_listing : (status : Status) (old new : Option (List ℕ)) → Wrote (SaysHits hits) status old new → Wrote (SaysFiles file name) status old new
    wrote_listing status old new w = wrote_weaker (SaysHits hits) (SaysFiles file name) says_hits status old new w

  module _ (f : Fault) (read : (b : Built) → built_of file ≡ Ok b → found_by name b ≡ Err f) where
    says_fault : (status : Status) (text : List ℕ) → SaysFault f status text → SaysFiles file name status text
    says_fault (TableRefused Lines) text h = let b = built file none in record { built = b.0; accepted = b.1; holds = (f, read b.0 b.1, h) }
    says_fault (TableRefused Addresses) text h = absurd h
    says_fault Answered text h = absurd h
    says_fault Refused text h = absurd h
    says_fault Usage text h = absurd h
    says_fault ReadFault text h = absurd h
    says_fault StoreFault text h = absurd h
    says_fault WriteFault text h = absurd h
    says_fault NoMemory text h = absurd h
    says_fault IndexRefused text h = absurd h
    says_fault IndexTooLarge text h = absurd h
    says_fault FileTooBig text h = absurd h
    says_fault AlreadyIndexed text h = absurd h
    says_fault TooManySections text h = absurd h
    says_fault InputFault text h = absurd h
    says_fault InputTooLong text h = absurd h
    says_fault Stopped text h = absurd h

    pub wrote_fault : (status : Status) (old new : Option (List ℕ)) → Wrote (SaysFault f) status old new → Wrote (SaysFiles file name) status old new
    wrote_fault status old new w = wrote_weaker (SaysFault f) (SaysFiles file name) says_fault status old new w

-- the first fault of the file
pub wrote_refusal : (file name : List ℕ) (f : Fault) → first_fault file ≡ Some f → (status : Status) (old new : Option (List ℕ)) → Wrote (SaysReply (Refuses f)) status old new → Wrote (SaysFiles file name) status old new
wrote_refusal file name f first status old new w = wrote_refused (SaysFiles file name) f (λ text is. record { fault = f; first = first; text_is = is }) status old new w

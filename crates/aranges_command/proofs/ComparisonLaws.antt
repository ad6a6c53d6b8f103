-- What is said of an address table that was read, and of its file.
use Rattle.std.proofs.Common.{◌≡◌, ℕ, List, Option, Some, None, Ok, Err, refl, sym, ap, subst, ◌∙◌}
use Rattle.std.specs.Prelude.{IsOkAnd, IfSome}
use Rattle.std.specs.Option.{ForSome}
use Rattle.ix_base.specs.declared.fault.Fault.{Fault}
use Rattle.file_image.specs.Images.{Image, image_of}
use Rattle.file_image.proofs.Images.{image_file, parts_of}
use Rattle.index_model.specs.declared.job.Job.TheVariants.{Main}
use Rattle.index_model.specs.declared.range.UnitRange.{UnitRange}
use Rattle.index_model.specs.Answers.{Refused as Refuses}
use Rattle.index_model.specs.Faults.{Built, built_of, first_fault}
use Rattle.index_model.specs.MainProgram.{main_of}
use Rattle.index_model.specs.Outputs.{Makes, Summary, SummaryOf}
use Rattle.index_model.specs.Pieces.{IsPieces}
use Rattle.index_model.specs.Ranges.{unit_at}
use Rattle.index_model.specs.Units.{units_of}
use Rattle.index_model.proofs.Meanings.{same_ok}
use Rattle.index_board.specs.Kept.{AreOf}
use Rattle.index_board.specs.Readers.{Reader}
use Rattle.index_pool.proofs.Lists.{and_ok, ok_and}
use Rattle.reach_model.specs.AddressSets.{AddressSet, address_sets, aranges_unit_at}
use Rattle.reach_model.specs.Differences.{IsComparison, IsFirstDifference}
use Rattle.reach_model.specs.declared.difference.Difference.{Difference}
use Rattle.reach_model.proofs.BuiltSections.{built_sections}
use Rattle.aranges_read.specs.Tables.{HasTheUnitsOf}
use Rattle.command_base.specs.Replies.{SaysReply, Wrote}
use Rattle.command_base.specs.declared.status.Status.{Status}
use Rattle.command_base.specs.declared.status.Status.TheVariants.{Answered, Refused, Usage, ReadFault, StoreFault, WriteFault, NoMemory, IndexRefused, TableRefused, IndexTooLarge, FileTooBig, AlreadyIndexed, TooManySections, InputFault, InputTooLong, Stopped}
use Rattle.command_base.specs.declared.status.RefusedTable.TheVariants.{Addresses, Lines}
use Rattle.command_base.proofs.ReplyLaws.{wrote_refused, wrote_weaker}
use Rattle.aranges_command.specs.Compared.{SaysComparison, SaysFault}
use Rattle.aranges_command.specs.Comparisons.{IsMapOf, SaysAranges, sets_of}

-- ---- the table of a file

module _ (image : Image) (is : image_of image.file ≡ Ok image) where
  -- what is read of the image is read of what is built of its file
  sets_are : (b : Built) → built_of image.file ≡ Ok b → sets_of b ≡ address_sets image.sections image.units
  sets_are b accepted =
      let parts = parts_of image.file image is in
      let sections : b.program.sections ≡ image.sections = same_ok b.program.sections image.sections (sym (built_sections image.file b accepted) ∙ parts.sections) in
      let units : units_of b.program.sections ≡ Ok image.units = ap units_of sections ∙ parts.units in
      rw (units, sections) refl

  module _ (own : List UnitRange) (map : IsMapOf image.file own) where
    -- what is said of the table where it was read
    module _ (m : List UnitRange) (read : IsOkAnd (address_sets image.sections image.units) (HasTheUnitsOf m)) (d : Option Difference) (same : d ≡ None → (a : ℕ) → unit_at m a ≡ unit_at own a) (first : ForSome d (IsFirstDifference m own)) where
      compared : (sets : List AddressSet) → HasTheUnitsOf m sets → (ranges : List UnitRange) → IsPieces ranges own → (x : Option Difference) → d ≡ x → IsComparison (aranges_unit_at sets) (unit_at ranges) x
      compared sets has ranges pieces None e = λ a. sym (has a) ∙ same e a ∙ pieces.same a
      compared sets has ranges pieces (Some x) e =
          let f = first x e in
          record {
            of_table = sym (has x.address) ∙ f.of_table;
            of_own = sym (pieces.same x.address) ∙ f.of_own;
            differ = f.differ;
            before = λ a lt. sym (has a) ∙ f.before a lt ∙ pieces.same a;
          }

      says_comparison : (status : Status) (text : List ℕ) → SaysComparison d status text → SaysAranges image.file status text
      says_comparison Answered text h =
          let b = ok_and (built_of image.file) (λ b. IsPieces b.ranges own) map in
          let s = ok_and (address_sets image.sections image.units) (HasTheUnitsOf m) read in
          record { built = b.0; accepted = b.1; holds = (s.0, sets_are b.0 b.1 ∙ s.1, (d, compared s.0 s.2 b.0.ranges b.2 d refl, h)) }
      says_comparison Refused text h = absurd h
      says_comparison Usage text h = absurd h
      says_comparison ReadFault text h = absurd h
      says_comparison StoreFault text h = absurd h
      says_comparison WriteFault text h = absurd h
      says_comparison NoMemory text h = absurd h
      says_comparison IndexRefused text h = absurd h
      says_comparison (TableRefused table) text h = absurd h
      says_comparison IndexTooLarge text h = absurd h
      says_comparison FileTooBig text h = absurd h
      says_comparison AlreadyIndexed text h = absurd h
      says_comparison TooManySections text h = absurd h
      says_comparison InputFault text h = absurd h
      says_comparison InputTooLong text h = absurd h
      says_comparison Stopped text h = absurd h

      pub wrote_comparison : (status : Status) (old new : Option (List ℕ)) → Wrote (SaysComparison d) status old new → Wrote (SaysAranges image.file) status old new
      wrote_comparison status old new w = wrote_weaker (SaysComparison d) (SaysAranges image.file) says_comparison status old new w

    -- where it has a fault
    module _ (f : Fault) (read : address_sets image.sections image.units ≡ Err f) where
      says_fault : (status : Status) (text : List ℕ) → SaysFault f status text → SaysAranges image.file status text
      says_fault (TableRefused Addresses) text h =
          let b = ok_and (built_of image.file) (λ b. IsPieces b.ranges own) map in
          record { built = b.0; accepted = b.1; holds = (f, sets_are b.0 b.1 ∙ read, h) }
      says_fault (TableRefused Lines) text h = absurd h
      says_fault Answered text h = absurd h
      says_fault Refused text h = absurd h
      says_fault Usage text h = absurd h
      says_fault ReadFault text h = absurd h
      says_fault StoreFault text h = absurd h
      says_fault WriteFault text h = absurd h
      says_fault NoMemory text h = absurd h
      says_fault IndexRefused text h = absurd h
      says_fault IndexTooLarge text h = absurd h
      says_fault FileTooBig text h = absurd h
      says_fault AlreadyIndexed text h = absurd h
      says_fault TooManySections text h = absurd h
      says_fault InputFault text h = absurd h
      says_fault InputTooLong text h = absurd h
      says_fault Stopped text h = absurd h

      pub wrote_fault : (status : Status) (old new : Option (List ℕ)) → Wrote (SaysFault f) status old new → Wrote (SaysAranges image.file) status old new
      wrote_fault status old new w = wrote_weaker (SaysFault f) (SaysAranges image.file) says_fault status old new w

-- ---- by a reader

-- the map that a reader keeps is that of the units
pub kept_map : (r : Reader) → AreOf r.board.subject r.kept → (m : Summary) → r.kept.summary ≡ Some m → IsMapOf r.board.subject.file m.map
kept_map r right m is =
    let makes : Makes r.board.subject Main (SummaryOf m) = subst (λ (o : Option Summary). IfSome o (λ m. Makes r.board.subject Main (SummaryOf m))) is right.summary in
    let b = ok_and (built_of r.board.subject.file) (λ b. (m.main ≡ main_of b.program b.links) × IsPieces b.ranges m.map) makes in
    and_ok (built_of r.board.subject.file) b.0 (λ b. IsPieces b.ranges m.map) b.1 b.2.1

-- an image of the file is that of its own file
pub of_own_file : (file : List ℕ) (image : Image) → image_of file ≡ Ok image → image_of image.file ≡ Ok image
of_own_file file image is = ap image_of (image_file file image is) ∙ is

pub map_of_own : (file : List ℕ) (image : Image) → image_of file ≡ Ok image → (map : List UnitRange) → IsMapOf file map → IsMapOf image.file map
map_of_own file image is map h = subst (λ (f : List ℕ). IsMapOf f map) (sym (image_file file image is)) h

-- the first fault of the file
pub wrote_refusal : (file : List ℕ) (f : Fault) → first_fault file ≡ Some f → (status : Status) (old new : Option (List ℕ)) → Wrote (SaysReply (Refuses f)) status old new → Wrote (SaysAranges file) status old new
wrote_refusal file f first status old new w = wrote_refused (SaysAranges file) f (λ text is. record { fault = f; first = first; text_is = is }) status old new w

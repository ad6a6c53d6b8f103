-- What is said of a file, by what a build of its index has published.
use Rattle.std.proofs.Common.{◌≡◌, inl, inr, ℕ, Bool, true, false, cond, leb, List, length, Option, Some, Ok, refl, sym, ap, subst, ◌∙◌}
use Rattle.std.specs.Prelude.{IsOkAnd, IfSome, ⊤}
use Rattle.ix_base.specs.declared.fault.Fault.{Fault}
use Rattle.file_image.specs.Images.{Image, image_of}
use Rattle.file_image.proofs.Images.{image_file}
use Rattle.index_model.specs.declared.entry.Entry.{Entry}
use Rattle.index_model.specs.declared.job.CacheKind.{CacheKind}
use Rattle.index_model.specs.declared.job.CacheKind.TheVariants.{Gdb8, Names}
use Rattle.index_model.specs.declared.job.Job.TheVariants.{Main, Merge, Write}
use Rattle.index_model.specs.Answers.{Refused as Refuses, entries_in}
use Rattle.index_model.specs.Cache.{Cache, GdbBytes, NameBytes, DoesNotFit, cache_of, cache_in}
use Rattle.index_model.specs.Faults.{Built, built_of, program_of, links_of, all_ranges, first_fault}
use Rattle.index_model.specs.MainProgram.{main_of}
use Rattle.index_model.specs.Outputs.{Summary, Makes, SummaryOf, TableOf, CacheOf}
use Rattle.index_model.specs.Parts.{Parts}
use Rattle.index_model.specs.Pieces.{IsPieces}
use Rattle.index_model.proofs.Meanings.{bind_ok, same_ok}
use Rattle.index_board.specs.Kept.{AreOf}
use Rattle.index_board.specs.Readers.{Reader}
use Rattle.stage_core.specs.declared.output.Cache.{Cache as Kept}
use Rattle.stage_core.specs.declared.output.Cache.TheVariants as caches
use Rattle.stage_core.specs.Outputs.{cache_seen}
use Rattle.index_pool.specs.Written.{ArePublished}
use Rattle.index_pool.proofs.Lists.{ok_and, and_ok, at_ok}
use Rattle.index_pool.proofs.RangeLoop.{walks_count}
use Rattle.query_engine.specs.Counts.{name_count, without_linkage}
use Rattle.drill_command.specs.Drills.{Totals, totals_line, totals_of, main_word, IsSummaryOf, HasTooLarge}
use Rattle.command_base.specs.Replies.{SaysReply, Wrote}
use Rattle.drill_command.specs.Summaries.{AreBuiltOf, SaysSummary, SaysTotals}
use Rattle.command_base.specs.declared.status.Status.{Status}
use Rattle.command_base.specs.declared.status.Status.TheVariants.{Answered, Refused, Usage, ReadFault, StoreFault, WriteFault, NoMemory, IndexRefused, TableRefused, IndexTooLarge, FileTooBig, AlreadyIndexed, TooManySections, InputFault, InputTooLong, Stopped}
use Rattle.command_base.proofs.ReplyLaws.{wrote_refused, wrote_weaker}

-- ---- an index that isn't of its sort doesn't fit

abbrev IsGdbOrNone : Cache → Type 0
IsGdbOrNone (GdbBytes bytes) = ⊤
IsGdbOrNone (NameBytes names strings) = ⊥
IsGdbOrNone DoesNotFit = ⊤

abbrev AreNamesOrNone : Cache → Type 0
AreNamesOrNone (GdbBytes bytes) = ⊥
AreNamesOrNone (NameBytes names strings) = ⊤
AreNamesOrNone DoesNotFit = ⊤

gdb_or_none : (b : Built) → IsGdbOrNone (cache_in Gdb8 b)
unfolding cache_in cache_of
gdb_or_none b = by (leb _ 4294967295) _
  where
    by : (fits : Bool) (bytes : List ℕ) → IsGdbOrNone (cond fits (GdbBytes bytes) DoesNotFit)
    by true bytes = tt
    by false bytes = tt

names_or_none : (b : Built) → AreNamesOrNone (cache_in Names b)
unfolding cache_in cache_of
names_or_none b = by _ _ _
  where
    by : (fits : Bool) (names strings : List ℕ) → AreNamesOrNone (cond fits (NameBytes names strings) DoesNotFit)
    by true names strings = tt
    by false names strings = tt

module _ (file : List ℕ) where
  pub gdb_large : (c : Kept) → IsOkAnd (built_of file) (λ b. cache_seen c ≡ cache_in Gdb8 b) → ((bytes : List ℕ) → c ≡ caches.Gdb bytes → ⊥) → HasTooLarge file
  gdb_large (caches.Gdb bytes) is off = absurd (off bytes refl)
  gdb_large (caches.Names names strings) is off =
      let b = ok_and (built_of file) (λ b. NameBytes names strings ≡ cache_in Gdb8 b) is in
      absurd (subst IsGdbOrNone (sym b.2) (gdb_or_none b.0))
  gdb_large caches.TooLarge is off =
      let b = ok_and (built_of file) (λ b. DoesNotFit ≡ cache_in Gdb8 b) is in
      record { built = b.0; accepted = b.1; large = inl (sym b.2) }

  pub names_large : (c : Kept) → IsOkAnd (built_of file) (λ b. cache_seen c ≡ cache_in Names b) → ((names strings : List ℕ) → c ≡ caches.Names names strings → ⊥) → HasTooLarge file
  names_large (caches.Gdb bytes) is off =
      let b = ok_and (built_of file) (λ b. GdbBytes bytes ≡ cache_in Names b) is in
      absurd (subst AreNamesOrNone (sym b.2) (names_or_none b.0))
  names_large (caches.Names names strings) is off = absurd (off names strings refl)
  names_large caches.TooLarge is off =
      let b = ok_and (built_of file) (λ b. DoesNotFit ≡ cache_in Names b) is in
      record { built = b.0; accepted = b.1; large = inr (sym b.2) }

-- ---- the totals of a file

program_is : (f : List ℕ) (b : Built) → built_of f ≡ Ok b → program_of f ≡ Ok b.program
unfolding built_of
program_is f b is =
    let p = bind_ok (program_of f) _ b is in
    let k = bind_ok (links_of p.0) _ b p.2 in
    let r = bind_ok (all_ranges p.0 k.0) _ b k.2 in
    let made : Built = record { program = p.0; links = k.0; ranges = r.0 } in
    subst (λ (x : Built). program_of f ≡ Ok x.program) (same_ok made b r.2) p.1

-- as they are counted
abbrev pub measured : Image → Summary → List Entry → List ℕ → List ℕ → List ℕ → Totals
measured image m es gdb names strings = record {
  units = length image.units;
  entries = length es;
  names = name_count (without_linkage es);
  gdb_index = length gdb;
  name_index = length names;
  strings = length strings;
  main = main_word m.main;
}

module _ (image : Image) (m : Summary) (es : List Entry) (h : ArePublished image m es) (is : image_of image.file ≡ Ok image) where
  pub totals_are : (gdb names strings : List ℕ) → IsOkAnd (built_of image.file) (λ b. measured image m es gdb names strings ≡ totals_of b gdb names strings)
  totals_are gdb names strings =
      let units = walks_count image is h.built.program (program_is image.file h.built h.accepted) in
      and_ok (built_of image.file) h.built (λ b. measured image m es gdb names strings ≡ totals_of b gdb names strings) h.accepted (rw (units, h.entries_are, h.main) refl)

-- ---- the parts of a build

module _ (image : Image) (parts : Parts) (is : AreBuiltOf image.file parts) where
  -- its index is that of the file
  pub index_kept : (c : Cache) → parts.cache ≡ Some c → IsOkAnd (built_of image.file) (λ b. c ≡ cache_in Gdb8 b)
  index_kept c there =
      let makes : Makes is.subject Write (CacheOf c) = subst (λ (o : Option Cache). IfSome o (λ c. Makes is.subject Write (CacheOf c))) there is.are.cache in
      subst (λ (k : CacheKind). IsOkAnd (built_of image.file) (λ b. c ≡ cache_in k b)) is.writes
      (subst (λ (f : List ℕ). IsOkAnd (built_of f) (λ b. c ≡ cache_in is.subject.cache b)) is.file_is makes)

  -- so are main and the entries
  pub are_published : (m : Summary) (es : List Entry) → parts.summary ≡ Some m → parts.table ≡ Some es → ArePublished image m es
  are_published m es first second =
      let summary : Makes is.subject Main (SummaryOf m) = subst (λ (o : Option Summary). IfSome o (λ m. Makes is.subject Main (SummaryOf m))) first is.are.summary in
      let table : Makes is.subject Merge (TableOf es) = subst (λ (o : Option (List Entry)). IfSome o (λ es. Makes is.subject Merge (TableOf es))) second is.are.table in
      let b = ok_and (built_of is.subject.file) (λ b. (m.main ≡ main_of b.program b.links) × IsPieces b.ranges m.map) summary in
      record {
        built = b.0;
        accepted = ap built_of (sym is.file_is) ∙ b.1;
        main = b.2.0;
        map = b.2.1;
        entries_are = at_ok (built_of is.subject.file) b.0 (λ b. es ≡ entries_in b) b.1 table;
      }

-- a reader of a board keeps the parts of its file
pub built_parts : (r : Reader) → r.board.subject.cache ≡ Gdb8 → (image : Image) → image_of r.board.subject.file ≡ Ok image → AreOf r.board.subject r.kept → (parts : Parts) → parts ≡ r.kept → AreBuiltOf image.file parts
built_parts r kind image is right parts kept = record {
  subject = r.board.subject;
  file_is = sym (image_file r.board.subject.file image is);
  writes = kind;
  are = subst (AreOf r.board.subject) (sym kept) right;
}

-- ---- what is said of the sizes

module _ (file : List ℕ) where
  module _ (gdb names strings : List ℕ) (t : Totals) (gdb_is : IsOkAnd (built_of file) (λ b. GdbBytes gdb ≡ cache_in Gdb8 b)) (names_is : IsOkAnd (built_of file) (λ b. NameBytes names strings ≡ cache_in Names b)) (are : IsOkAnd (built_of file) (λ b. t ≡ totals_of b gdb names strings)) where
    summary_is : (text : List ℕ) → text ≡ totals_line t → IsSummaryOf file text
    summary_is text is =
        let b = ok_and (built_of file) (λ b. t ≡ totals_of b gdb names strings) are in
        record {
          built = b.0;
          accepted = b.1;
          gdb = gdb;
          gdb_is = sym (at_ok (built_of file) b.0 (λ b. GdbBytes gdb ≡ cache_in Gdb8 b) b.1 gdb_is);
          names = names;
          strings = strings;
          names_is = sym (at_ok (built_of file) b.0 (λ b. NameBytes names strings ≡ cache_in Names b) b.1 names_is);
          text_is = is ∙ ap totals_line b.2;
        }

    says_summary : (status : Status) (text : List ℕ) → SaysTotals t status text → SaysSummary file status text
    says_summary Answered text h = summary_is text h
    says_summary Refused text h = absurd h
    says_summary Usage text h = absurd h
    says_summary ReadFault text h = absurd h
    says_summary StoreFault text h = absurd h
    says_summary WriteFault text h = absurd h
    says_summary NoMemory text h = absurd h
    says_summary IndexRefused text h = absurd h
    says_summary IndexTooLarge text h = absurd h
    says_summary FileTooBig text h = absurd h
    says_summary AlreadyIndexed text h = absurd h
    says_summary TooManySections text h = absurd h
    says_summary (TableRefused table) text h = absurd h
    says_summary InputFault text h = absurd h
    says_summary InputTooLong text h = absurd h
    says_summary Stopped text h = absurd h

    pub wrote_summary : (status : Status) (old new : Option (List ℕ)) → Wrote (SaysTotals t) status old new → Wrote (SaysSummary file) status old new
    wrote_summary status old new w = wrote_weaker (SaysTotals t) (SaysSummary file) says_summary status old new w

  -- ---- the file has a fault

  module _ (f : Fault) (first : first_fault file ≡ Some f) where
    pub wrote_refusal : (status : Status) (old new : Option (List ℕ)) → Wrote (SaysReply (Refuses f)) status old new → Wrote (SaysSummary file) status old new
    wrote_refusal status old new w = wrote_refused (SaysSummary file) f (λ text is. record { fault = f; first = first; text_is = is }) status old new w

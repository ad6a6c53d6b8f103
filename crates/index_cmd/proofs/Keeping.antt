-- What is kept and said behind a shelf that holds the same.
use Rattle.std.proofs.Common.{inl, inr, ℕ, List, Option}
use Rattle.ix_base.specs.declared.fault.Fault.{Fault}
use Rattle.ix_base.specs.declared.limits.TheConstants.{MAX_FILE_BYTES}
use Rattle.query_text.specs.Questions.{Question}
use Rattle.outside.specs.Files.{Files, SameFiles}
use Rattle.outside.proofs.FileLaws.{same_files-trans}
use Rattle.reach_model.specs.BuildIds.{cache_name}
use Rattle.reach_model.specs.KeptIndexes.{kept_bytes}
use Rattle.command_base.proofs.FileReads.{same_more, same_whole}
use Rattle.command_base.specs.Replies.{PrefixOf}
use Rattle.command_base.specs.declared.status.Status.{Status}
use Rattle.command_base.specs.declared.status.Status.TheVariants.{Answered, Refused, Usage, ReadFault, StoreFault, WriteFault, NoMemory, IndexRefused, TableRefused, IndexTooLarge, FileTooBig, AlreadyIndexed, TooManySections, InputFault, InputTooLong, Stopped}
use Rattle.cached_command.specs.Cached.{LooksFirst, MayKeep, SaysTied}
use Rattle.cached_command.specs.Caches.{IsCached, hit, stored, unsaved, IsMissed, without_id, unread, stale, IsStale, refused, too_large, IsNotKept, nowhere, failed}
use Rattle.cached_command.proofs.FilesLaws.{left_since, stored_since}

module _ (told shelf : Option Files) (same : SameFiles told shelf) where
  stale_from : (name id : List ℕ) (f : Fault) → IsStale shelf name id f → IsStale told name id f
  stale_from name id f (refused kept g held small is) = refused kept g (same_whole name kept told shelf same held) small is
  stale_from name id f (too_large more) = too_large (same_more name MAX_FILE_BYTES told shelf same more)

  missed_from : (file store : List ℕ) (K L : Type 0) → (K → L) → (why : Option Fault) → IsMissed shelf file store K why → IsMissed told file store L why
  missed_from file store K L k why (without_id none) = without_id none
  missed_from file store K L k why (unread id own c) = unread id own (k c)
  missed_from file store K L k why (stale id f own is) = stale id f own (stale_from (cache_name store id) id f is)

  pub looks_from : (file store : List ℕ) (K L : Type 0) → (K → L) → LooksFirst shelf file store K Refused → LooksFirst told file store L Refused
  looks_from file store K L k (inl early) = inl early
  looks_from file store K L k (inr missed) = inr (missed.0, missed_from file store K L k missed.0 missed.1)

  pub looks_large_from : (file store : List ℕ) (K L : Type 0) → (K → L) → LooksFirst shelf file store K IndexTooLarge → LooksFirst told file store L IndexTooLarge
  looks_large_from file store K L k missed = (missed.0, missed_from file store K L k missed.0 missed.1)

  module _ (after : Option Files) (file store : List ℕ) where
    pub may_from : MayKeep shelf after file store → MayKeep told after file store
    may_from (inl h) = inl (same_files-trans told shelf after same h)
    may_from (inr h) = inr (h.0, h.1, h.2, h.3, left_since (cache_name store h.0) (kept_bytes h.0 h.1) told shelf after same h.4)

    not_kept_from : (bytes : List ℕ) (S T : Type 0) → (S → T) → IsNotKept shelf after file store bytes S → IsNotKept told after file store bytes T
    not_kept_from bytes S T s (nowhere none h) = nowhere none (same_files-trans told shelf after same h)
    not_kept_from bytes S T s (failed id own c part) = failed id own (s c) (left_since (cache_name store id) (kept_bytes id bytes) told shelf after same part)

    pub cached_from : (q : Question) (K S L T : Type 0) → (K → L) → (S → T) → (text : List ℕ) → IsCached shelf after file store q K S text → IsCached told after file store q L T text
    cached_from q K S L T k s text (hit h) = hit (record {
      id = h.id;
      own = h.own;
      kept = h.kept;
      held = same_whole (cache_name store h.id) h.kept told shelf same h.held;
      small = h.small;
      index = h.index;
      accepted = h.accepted;
      answer = h.answer;
      answers = h.answers;
      text_is = h.text_is;
      same = same_files-trans told shelf after same h.same;
    })
    cached_from q K S L T k s text (stored h) = stored (record {
      why = h.why;
      missed = missed_from file store K L k h.why h.missed;
      bytes = h.bytes;
      index = h.index;
      answer = h.answer;
      answers = h.answers;
      text_is = h.text_is;
      id = h.id;
      own = h.own;
      stored = stored_since (cache_name store h.id) (kept_bytes h.id h.bytes) told shelf after same h.stored;
    })
    cached_from q K S L T k s text (unsaved h) = unsaved (record {
      why = h.why;
      missed = missed_from file store K L k h.why h.missed;
      bytes = h.bytes;
      index = h.index;
      answer = h.answer;
      answers = h.answers;
      text_is = h.text_is;
      not_kept = not_kept_from h.bytes S T s h.not_kept;
    })

    module _ (q : Question) (K S L T : Type 0) (k : K → L) (s : S → T) where
      says_from : (status : Status) (text : List ℕ) → SaysTied shelf after file store q K S status text → SaysTied told after file store q L T status text
      says_from Answered text h = cached_from q K S L T k s text h
      says_from Refused text h = (h.0, same_files-trans told shelf after same h.1, looks_from file store K L k h.2)
      says_from Usage text h = absurd h
      says_from ReadFault text h = absurd h
      says_from StoreFault text h = absurd h
      says_from WriteFault text h = absurd h
      says_from InputFault text h = absurd h
      says_from NoMemory text h = absurd h
      says_from IndexRefused text h = absurd h
      says_from (TableRefused table) text h = absurd h
      says_from IndexTooLarge text h = absurd h
      says_from FileTooBig text h = absurd h
      says_from AlreadyIndexed text h = absurd h
      says_from TooManySections text h = absurd h
      says_from InputTooLong text h = absurd h
      says_from Stopped text h = absurd h

      pub prefix_from : (old new : Option (List ℕ)) → PrefixOf (SaysTied shelf after file store q K S) old new → PrefixOf (SaysTied told after file store q L T) old new
      prefix_from old new p = (p.0, p.1, says_from p.0 p.1 p.2, p.3)

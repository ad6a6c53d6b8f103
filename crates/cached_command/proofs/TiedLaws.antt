-- The clauses of the whole command.
use Rattle.std.proofs.Common.{inl, inr, ℕ, List, Option}
use Rattle.std.specs.Prelude.{⊤}
use Rattle.ix_base.specs.declared.fault.Fault.{Fault}
use Rattle.query_text.specs.Questions.{Question}
use Rattle.outside.specs.Files.{Files}
use Rattle.command_base.specs.Replies.{Wrote}
use Rattle.command_base.specs.declared.status.Status.{Status}
use Rattle.command_base.specs.declared.status.Status.TheVariants.{Answered, Refused, Usage, ReadFault, StoreFault, WriteFault, NoMemory, IndexRefused, TableRefused, IndexTooLarge, FileTooBig, AlreadyIndexed, TooManySections, InputFault, InputTooLong, Stopped}
use Rattle.command_base.proofs.ReplyLaws.{wrote_weaker}
use Rattle.cached_command.specs.Buildings.{CausesTied}
use Rattle.cached_command.specs.Cached.{LeavesCached, MayKeep, SaysCached, SaysTied}
use Rattle.cached_command.specs.Caches.{IsCached, IsMissed, IsNotKept, failed, hit, nowhere, stale, stored, unread, unsaved, without_id}
use Rattle.cached_command.proofs.FilesLaws.{stored-prefix}

module _ (before after : Option Files) (file store : List ℕ) (q : Question) (kept_reads stores : Type 0) where
  -- ---- what is written

  any_miss : (why : Option Fault) → IsMissed before file store kept_reads why → IsMissed before file store ⊤ why
  any_miss why (without_id none) = without_id none
  any_miss why (unread id own rose) = unread id own tt
  any_miss why (stale id f own is) = stale id f own is

  any_loss : (bytes : List ℕ) → IsNotKept before after file store bytes stores → IsNotKept before after file store bytes ⊤
  any_loss bytes (nowhere none same) = nowhere none same
  any_loss bytes (failed id own rose left) = failed id own tt left

  any_cause : (text : List ℕ) → IsCached before after file store q kept_reads stores text → IsCached before after file store q ⊤ ⊤ text
  any_cause text (hit h) = hit h
  any_cause text (stored h) = stored (record {
    why = h.why;
    missed = any_miss h.why h.missed;
    bytes = h.bytes;
    index = h.index;
    answer = h.answer;
    answers = h.answers;
    text_is = h.text_is;
    id = h.id;
    own = h.own;
    stored = h.stored;
  })
  any_cause text (unsaved h) = unsaved (record {
    why = h.why;
    missed = any_miss h.why h.missed;
    bytes = h.bytes;
    index = h.index;
    answer = h.answer;
    answers = h.answers;
    text_is = h.text_is;
    not_kept = any_loss h.bytes h.not_kept;
  })

  says : (status : Status) (text : List ℕ) → SaysTied before after file store q kept_reads stores status text → SaysCached before file store q status text
  says Answered text h = (after, any_cause text h)
  says Refused text h = h.0
  says Usage text h = absurd h
  says ReadFault text h = absurd h
  says StoreFault text h = absurd h
  says WriteFault text h = absurd h
  says InputFault text h = absurd h
  says NoMemory text h = absurd h
  says IndexRefused text h = absurd h
  says (TableRefused table) text h = absurd h
  says IndexTooLarge text h = absurd h
  says FileTooBig text h = absurd h
  says AlreadyIndexed text h = absurd h
  says TooManySections text h = absurd h
  says InputTooLong text h = absurd h
  says Stopped text h = absurd h

  pub wrote_cached : (status : Status) (old new : Option (List ℕ)) → Wrote (SaysTied before after file store q kept_reads stores) status old new → Wrote (SaysCached before file store q) status old new
  wrote_cached status old new w = wrote_weaker (SaysTied before after file store q kept_reads stores) (SaysCached before file store q) says status old new w

  -- ---- what the files hold

  may_keep : (text : List ℕ) → IsCached before after file store q kept_reads stores text → MayKeep before after file store
  may_keep text (hit h) = inl h.same
  may_keep text (stored h) = inr (h.id, h.bytes, h.own, h.index, stored-prefix _ _ before after h.stored)
  may_keep text (unsaved h) = by h.not_kept
    where
      by : IsNotKept before after file store h.bytes stores → MayKeep before after file store
      by (nowhere none same) = inl same
      by (failed id own rose left) = inr (id, h.bytes, own, h.index, left)

  may_keep_at : (status : Status) (text : List ℕ) → SaysTied before after file store q kept_reads stores status text → MayKeep before after file store
  may_keep_at Answered text h = may_keep text h
  may_keep_at Refused text h = inl h.1
  may_keep_at Usage text h = absurd h
  may_keep_at ReadFault text h = absurd h
  may_keep_at StoreFault text h = absurd h
  may_keep_at WriteFault text h = absurd h
  may_keep_at InputFault text h = absurd h
  may_keep_at NoMemory text h = absurd h
  may_keep_at IndexRefused text h = absurd h
  may_keep_at (TableRefused table) text h = absurd h
  may_keep_at IndexTooLarge text h = absurd h
  may_keep_at FileTooBig text h = absurd h
  may_keep_at AlreadyIndexed text h = absurd h
  may_keep_at TooManySections text h = absurd h
  may_keep_at InputTooLong text h = absurd h
  may_keep_at Stopped text h = absurd h

  module _ (writes : Type 0) where
    pub leaves : (status : Status) (old new : Option (List ℕ)) → Wrote (SaysTied before after file store q kept_reads stores) status old new → CausesTied before after file store kept_reads writes status → LeavesCached file store before after status
    leaves Answered old new w c = may_keep w.0 w.1
    leaves Refused old new w c = w.1.1
    leaves Usage old new w c = absurd c
    leaves ReadFault old new w c = absurd c
    leaves StoreFault old new w c = absurd c
    leaves WriteFault old new w c = may_keep_at w.0 w.1 w.2
    leaves InputFault old new w c = absurd c
    leaves NoMemory old new w c = c
    leaves IndexRefused old new w c = absurd c
    leaves (TableRefused table) old new w c = absurd c
    leaves IndexTooLarge old new w c = c.1
    leaves FileTooBig old new w c = absurd c
    leaves AlreadyIndexed old new w c = absurd c
    leaves TooManySections old new w c = absurd c
    leaves InputTooLong old new w c = absurd c
    leaves Stopped old new w c = absurd c

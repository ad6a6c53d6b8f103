-- Where nothing failed, `cached` comes to what the file or its kept index means, or to want of memory.
use Rattle.std.proofs.Common.{◌≡◌, ◌⊎◌, inl, inr, ℕ, ◌<◌, List, length, Option, Some, None, Result, Ok, Err, refl, sym, ap, subst, ◌∙◌}
use Rattle.ix_base.specs.declared.fault.Fault.{Fault}
use Rattle.ix_base.specs.declared.limits.TheConstants.{MAX_FILE_BYTES}
use Rattle.file_image.specs.Images.{Image}
use Rattle.index_model.specs.declared.job.CacheKind.TheVariants.{Gdb9}
use Rattle.index_model.specs.Cache.{GdbBytes, DoesNotFit, cache_in}
use Rattle.index_model.specs.Faults.{Built, built_of, first_fault}
use Rattle.index_model.specs.Meaning.{◌>>=◌}
use Rattle.query_text.specs.Questions.{Question}
use Rattle.index_model.proofs.Meanings.{same_ok}
use Rattle.outside.specs.Files.{Files}
use Rattle.reach_model.specs.BuildIds.{build_id_of}
use Rattle.command_base.specs.Replies.{line_of}
use Rattle.command_base.specs.Statuses.{status_code}
use Rattle.command_base.specs.declared.status.Status.{Status}
use Rattle.command_base.specs.declared.status.Status.TheVariants.{Answered, Refused, Usage, ReadFault, StoreFault, WriteFault, NoMemory, IndexRefused, TableRefused, IndexTooLarge, FileTooBig, AlreadyIndexed, TooManySections, InputFault, InputTooLong, Stopped}
use Rattle.cached_command.specs.Cached.{IsCachedMeant}
use Rattle.cached_command.specs.Caches.{id_of, FaultsEarly, IsCached, hit, stored, unsaved, IsIndexOf, IsMissed, without_id, unread, stale, IsTooLarge}
use Rattle.cached_command.proofs.SpotLaws.{early_fault}
use Rattle.index_cmd.specs.Replies.{Causes}
use Rattle.index_cmd.specs.Requests.{Request, OfCached}
use Rattle.index_cmd.proofs.Outcomes.{Plain, answers, refuses, index_refuses, table_refuses, plain_lines, plain_fails, same_bytes, accepted_built, none_some}

-- ---- an answer comes of a file whose sections and headers have no fault

of_missed : (told : Option Files) (file store : List ℕ) (K : Type 0) (why : Option Fault) → IsMissed told file store K why → (x : Option (List ℕ)) × (id_of file ≡ Ok x)
of_missed told file store K why (without_id none) = (None, none)
of_missed told file store K why (unread id own k) = (Some id, own)
of_missed told file store K why (stale id f own is) = (Some id, own)

of_cached : (told after : Option Files) (file store : List ℕ) (q : Question) (K S : Type 0) (text : List ℕ) → IsCached told after file store q K S text → (x : Option (List ℕ)) × (id_of file ≡ Ok x)
of_cached told after file store q K S text (hit h) = (Some h.id, h.own)
of_cached told after file store q K S text (stored h) = (Some h.id, h.own)
of_cached told after file store q K S text (unsaved h) = of_missed told file store K h.why h.missed

not_early : (file : List ℕ) (f : Fault) → FaultsEarly file f → (x : Option (List ℕ)) → id_of file ≡ Ok x → ⊥
not_early file f early x own =
    let wrong : id_of file ≡ Err f = ap (λ (r : Result Image Fault). r >>= (λ image. Ok (build_id_of image.sections))) early in
    let e : Err f ≡ Ok x = sym wrong ∙ own in
    cc e

-- ---- a file has one index

one_built : (file : List ℕ) (a b : Built) → built_of file ≡ Ok a → built_of file ≡ Ok b → a ≡ b
one_built file a b x y = same_ok a b (sym x ∙ y)

not_large : (file bytes : List ℕ) → IsIndexOf file bytes → IsTooLarge file → ⊥
not_large file bytes index large =
    let e : GdbBytes bytes ≡ DoesNotFit = sym index.holds ∙ ap (cache_in Gdb9) (one_built file index.built large.built index.accepted large.accepted) ∙ large.holds in
    cc e

no_fault : (file : List ℕ) (b : Built) (f : Fault) → built_of file ≡ Ok b → first_fault file ≡ Some f → ⊥
no_fault file b f is first = none_some f (sym (accepted_built file b is) ∙ first)

module _ (files : Files) (reads stores writes : Type 0) (old new : Option (List ℕ)) (file bytes store : List ℕ) (q : Question) (holds : files file ≡ Some bytes) (fits : (all : List ℕ) × (files file ≡ Some all) × (MAX_FILE_BYTES < length all) → ⊥) (no_read : reads → ⊥) (no_write : writes → ⊥) where
  abbrev asked : Option Request
  asked = Some (OfCached file store q)

  -- the line of a status can be that of want of memory, or of an index that is too large
  cached_line : (status : Status) (text : List ℕ) → line_of status ≡ Some text → Causes asked (Some files) reads stores writes status → (status_code status ≡ 7) ⊎ ((status_code status ≡ 9) × IsTooLarge bytes)
  cached_line NoMemory text is c = inl refl
  cached_line IndexTooLarge text is c = inr (refl, subst IsTooLarge (same_bytes (files file) c.0 bytes c.1 holds) c.3)
  cached_line Usage text is c = absurd (cc c)
  cached_line ReadFault text is c = absurd (no_read c)
  cached_line StoreFault text is c = absurd c
  cached_line FileTooBig text is c = absurd (fits c)
  cached_line AlreadyIndexed text is c = absurd c
  cached_line TooManySections text is c = absurd c
  cached_line Answered text is c = absurd (cc is)
  cached_line Refused text is c = absurd (cc is)
  cached_line IndexRefused text is c = absurd (cc is)
  cached_line (TableRefused table) text is c = absurd (cc is)
  cached_line WriteFault text is c = absurd (cc is)
  cached_line InputFault text is c = absurd (cc is)
  cached_line InputTooLong text is c = absurd (cc is)
  cached_line Stopped text is c = absurd (cc is)

  by_line : (n : ℕ) → (n ≡ 7) ⊎ ((n ≡ 9) × IsTooLarge bytes) → IsCachedMeant bytes n
  by_line n (inl e) = record { fits = λ b index. inr e; too_large = λ large. inr (inr e); refused_early = λ f early. inr e; refused_late = λ f first. inr (inr e) }
  by_line n (inr h) = record {
    fits = λ b index. absurd (not_large bytes b index h.1);
    too_large = λ large. inr (inl h.0);
    refused_early = λ f early. absurd (no_fault bytes h.1.built f h.1.accepted (early_fault bytes store f early));
    refused_late = λ f first. absurd (no_fault bytes h.1.built f h.1.accepted first);
  }

  pub cached_meant : (status : Status) → Plain asked (Some files) reads stores writes old new status → IsCachedMeant bytes (status_code status)
  cached_meant status (answers w) =
      let own = of_cached (Some files) w.1.3.0 w.1.0 store q _ _ w.0 w.1.3.1 in
      let same = same_bytes (files file) w.1.0 bytes w.1.1 holds in
      record {
        fits = λ b index. inl refl;
        too_large = λ large. inl refl;
        refused_early = λ f early. absurd (not_early bytes f early own.0 (ap id_of (sym same) ∙ own.1));
        refused_late = λ f first. inl refl;
      }
  cached_meant status (refuses w) =
      let faulty : first_fault bytes ≡ Some w.1.3.fault = ap first_fault (sym (same_bytes (files file) w.1.0 bytes w.1.1 holds)) ∙ w.1.3.first in
      record {
        fits = λ b index. absurd (no_fault bytes index.built w.1.3.fault index.accepted faulty);
        too_large = λ large. absurd (no_fault bytes large.built w.1.3.fault large.accepted faulty);
        refused_early = λ f early. inl refl;
        refused_late = λ f first. inr (inl refl);
      }
  cached_meant status (index_refuses w) = absurd w.1
  cached_meant status (table_refuses table w) = absurd w.1
  cached_meant status (plain_lines text is c) = by_line (status_code status) (cached_line status text is c)
  cached_meant status (plain_fails f) = absurd (no_write f)

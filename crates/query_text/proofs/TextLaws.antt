-- The lines of replies, as what stands before a name and the rest.
use Rattle.std.proofs.Common.{◌≡◌, ℕ, zero, suc, ◌<◌, List, [], ◌∷◌, ◌++◌, length, refl, ap, sym, ◌∙◌, append_assoc, Option, Some, None}
use Rattle.std.specs.Prelude.{All, decimal, codes, map, flat_map, option_map, slice_get}
use Rattle.ix_base.specs.declared.fault.Fault.{Fault}
use Rattle.name_quotes.specs.declared.quote.Spelling.{Spelling}
use Rattle.name_quotes.specs.declared.quote.Spelling.TheVariants.{Plain, Quoted}
use Rattle.index_model.specs.declared.answer.CacheSize.{CacheSize}
use Rattle.index_model.specs.declared.entry.Entry.{Entry}
use Rattle.index_model.specs.declared.answer.Main.{Main}
use Rattle.index_model.specs.Answers.{Answer, Entries, InUnit, MainIs, CacheIs, Answered, Pending, Refused, Stopped, entries_at}
use Rattle.index_model.specs.Texts.{hex, line, newline, text_of_answer, text_of_entry, text_of_entries, text_of_fault, text_of_reply}
use Rattle.query_text.specs.Heads.{head_of}
use Rattle.query_text.specs.Spelled.{answer_in, entry_in, main_in, reply_in, texts_at}
use Rattle.query_text.proofs.EntryLaws.{length-entries}

pub entry_text : (e : Entry) → head_of e ++ (e.name ++ newline) ≡ text_of_entry e
unfolding text_of_entry
entry_text e = simp append_assoc

pub main_text : (m : Main) → (codes "main " ++ hex m.language ++ codes " ") ++ (m.name ++ newline) ≡ text_of_answer (MainIs (Some m))
unfolding text_of_answer
main_text m = simp append_assoc

-- ---- entries with their names as they are written

module _ (f : Entry → Entry) where
  got : (es : List Entry) (k : ℕ) → slice_get (map f es) k ≡ option_map f (slice_get es k)
  got [] k = refl
  got (e ∷ es) zero = refl
  got (e ∷ es) (suc k) = got es k

  one_more : (es : List Entry) (k : ℕ) (ks : List ℕ) (o : Option Entry) → slice_get es k ≡ o → entries_at (map f es) ks ≡ map f (entries_at es ks) → entries_at (map f es) (k ∷ ks) ≡ map f (entries_at es (k ∷ ks))
  one_more es k ks None is rest = rw (got es k ∙ ap (option_map f) is, is) rest
  one_more es k ks (Some e) is rest = rw (got es k ∙ ap (option_map f) is, is) (ap (λ (l : List Entry). f e ∷ l) rest)

  mapped : (es : List Entry) (ks : List ℕ) → entries_at (map f es) ks ≡ map f (entries_at es ks)
  mapped es [] = refl
  mapped es (k ∷ ks) = one_more es k ks (slice_get es k) refl (mapped es ks)

  texts_mapped : (es : List Entry) → flat_map text_of_entry (map f es) ≡ flat_map (λ e. text_of_entry (f e)) es
  texts_mapped [] = refl
  texts_mapped (e ∷ es) = ap (λ (l : List ℕ). text_of_entry (f e) ++ l) (texts_mapped es)

  count_mapped : (es : List Entry) → length (map f es) ≡ length es
  count_mapped [] = refl
  count_mapped (e ∷ es) = ap suc (count_mapped es)

found : (n : ℕ) (es : List Entry) (ks : List ℕ) → n ≡ length (entries_at es ks) → line (codes "found" ∷ decimal n ∷ []) ++ flat_map text_of_entry (entries_at es ks) ≡ text_of_answer (Entries es ks)
unfolding text_of_answer text_of_entries
found n es ks is = ap (λ (n : ℕ). line (codes "found" ∷ decimal n ∷ []) ++ flat_map text_of_entry (entries_at es ks)) is

-- the lines of an answer of entries
pub found_text : (spelling : Spelling) (es : List Entry) (ks : List ℕ) → All (λ k. k < length es) ks → line (codes "found" ∷ decimal (length ks) ∷ []) ++ texts_at spelling es ks ≡ text_of_answer (answer_in spelling (Entries es ks))
found_text Plain es ks fit = found (length ks) es ks (sym (length-entries es ks fit))
found_text Quoted es ks fit =
    let f = entry_in Quoted in
    ap (λ (l : List ℕ). line (codes "found" ∷ decimal (length ks) ∷ []) ++ l) (sym (ap (flat_map text_of_entry) (mapped f es ks) ∙ texts_mapped f (entries_at es ks)))
    ∙ found (length ks) (map f es) ks (sym (length-entries es ks fit) ∙ sym (count_mapped f (entries_at es ks)) ∙ sym (ap length (mapped f es ks)))

-- answers without entries, and replies
same_unit : (spelling : Spelling) (u : Option ℕ) → InUnit u ≡ answer_in spelling (InUnit u)
same_unit Plain u = refl
same_unit Quoted u = refl

same_size : (spelling : Spelling) (size : CacheSize) → CacheIs size ≡ answer_in spelling (CacheIs size)
same_size Plain size = refl
same_size Quoted size = refl

same_main : (spelling : Spelling) (m : Option Main) → MainIs (option_map (main_in spelling) m) ≡ answer_in spelling (MainIs m)
same_main Plain None = refl
same_main Plain (Some m) = refl
same_main Quoted m = refl

pub unit_text : (spelling : Spelling) (u : Option ℕ) → text_of_answer (InUnit u) ≡ text_of_answer (answer_in spelling (InUnit u))
unit_text spelling u = ap text_of_answer (same_unit spelling u)

pub size_text : (spelling : Spelling) (size : CacheSize) → text_of_answer (CacheIs size) ≡ text_of_answer (answer_in spelling (CacheIs size))
size_text spelling size = ap text_of_answer (same_size spelling size)

pub mains_text : (spelling : Spelling) (m : Option Main) → text_of_answer (MainIs (option_map (main_in spelling) m)) ≡ text_of_answer (answer_in spelling (MainIs m))
mains_text spelling m = ap text_of_answer (same_main spelling m)

pub answered_text : (spelling : Spelling) (a : Answer) → text_of_answer (answer_in spelling a) ≡ text_of_reply (reply_in spelling (Answered a))
unfolding text_of_reply
answered_text Plain a = refl
answered_text Quoted a = refl

pub pending_text : (spelling : Spelling) → line (codes "pending" ∷ []) ≡ text_of_reply (reply_in spelling Pending)
unfolding text_of_reply
pending_text Plain = refl
pending_text Quoted = refl

pub refused_text : (spelling : Spelling) (f : Fault) → text_of_fault f ≡ text_of_reply (reply_in spelling (Refused f))
unfolding text_of_reply
refused_text Plain f = refl
refused_text Quoted f = refl

pub stopped_text : (spelling : Spelling) → line (codes "stopped" ∷ []) ≡ text_of_reply (reply_in spelling Stopped)
unfolding text_of_reply
stopped_text Plain = refl
stopped_text Quoted = refl

-- The texts of entries at places, one after the other.
use Rattle.std.proofs.Common.{◌≡◌, ℕ, zero, suc, ◌+◌, ◌<◌, List, [], ◌∷◌, ◌++◌, length, get_or, take, drop, refl, sym, ap, ◌∙◌, arith, append-nil, Some, take-append-drop}
use Rattle.std.specs.Prelude.{flat_map, slice_get, All}
use Rattle.std.proofs.lemmas.List.{take_more}
use Rattle.std.proofs.lemmas.List.Concat.{flat_map-append}
use Rattle.std.proofs.lemmas.List.Elements.{filter_map-append}
use Rattle.index_model.specs.declared.entry.Entry.{Entry}
use Rattle.index_model.specs.Answers.{entries_at}
use Rattle.index_model.specs.Texts.{text_of_entry}
use Rattle.name_quotes.specs.declared.quote.Spelling.{Spelling}
use Rattle.query_text.specs.Spelled.{entry_in, texts_at}

-- at a place there is an entry
pub entry_at : (es : List Entry) (k : ℕ) (e : Entry) → k < length es → e ≡ get_or es k e → slice_get es k ≡ Some e
entry_at [] k e lt is = absurd (omega arith)
entry_at (x ∷ es) zero e lt is = ap Some (sym is)
entry_at (x ∷ es) (suc k) e lt is = entry_at es k e (omega arith) is

module _ (spelling : Spelling) where
  abbrev one : Entry → List ℕ
  one e = text_of_entry (entry_in spelling e)

  texts-append : (es : List Entry) (ks js : List ℕ) → texts_at spelling es (ks ++ js) ≡ texts_at spelling es ks ++ texts_at spelling es js
  texts-append es ks js = ap (flat_map one) (filter_map-append (slice_get es) ks js) ∙ flat_map-append one (entries_at es ks) (entries_at es js)

  text-one : (es : List Entry) (k : ℕ) (e : Entry) → slice_get es k ≡ Some e → texts_at spelling es (k ∷ []) ≡ text_of_entry (entry_in spelling e)
  text-one es k e is = rw is (append-nil (text_of_entry (entry_in spelling e)))

  module _ (es : List Entry) (ks : List ℕ) (i : ℕ) (e : Entry) (lt : i < length ks) (fits : get_or ks i 0 < length es) (is : e ≡ get_or es (get_or ks i 0) e) where
    -- one more entry
    pub texts-more : texts_at spelling es (take (i + 1) ks) ≡ texts_at spelling es (take i ks) ++ text_of_entry (entry_in spelling e)
    texts-more =
        ap (texts_at spelling es) (take_more ks i 0 lt) ∙ texts-append es (take i ks) (get_or ks i 0 ∷ [])
        ∙ ap (λ (t : List ℕ). texts_at spelling es (take i ks) ++ t) (text-one es (get_or ks i 0) e (entry_at es (get_or ks i 0) e fits is))

    -- what is left behind that
    pub texts-whole : texts_at spelling es ks ≡ (texts_at spelling es (take i ks) ++ text_of_entry (entry_in spelling e)) ++ texts_at spelling es (drop (i + 1) ks)
    texts-whole =
        ap (texts_at spelling es) (sym (take-append-drop (i + 1) ks)) ∙ texts-append es (take (i + 1) ks) (drop (i + 1) ks)
        ∙ ap (λ (t : List ℕ). t ++ texts_at spelling es (drop (i + 1) ks)) texts-more

some_entry : (es : List Entry) (k : ℕ) → k < length es → (e : Entry) × (slice_get es k ≡ Some e)
some_entry [] k lt = absurd (omega arith)
some_entry (x ∷ es) zero lt = (x, refl)
some_entry (x ∷ es) (suc k) lt = some_entry es k (omega arith)

-- each place has its entry
pub length-entries : (es : List Entry) (ks : List ℕ) → All (λ k. k < length es) ks → length (entries_at es ks) ≡ length ks
length-entries es [] fit = refl
length-entries es (k ∷ ks) fit =
    let e = some_entry es k (fit 0 0 (omega arith)) in
    let is : slice_get es k ≡ Some e.0 = e.1 in
    rw is (ap suc (length-entries es ks (λ i d lt. fit (suc i) d (omega arith))))

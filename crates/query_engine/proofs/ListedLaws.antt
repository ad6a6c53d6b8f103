-- The places of the entries that are listed by the first texts of both orders, and one text more.
use Rattle.std.proofs.Common.{◌≡◌, ◌≢◌, ℕ, ◌+◌, ◌<◌, ◌≤◌, List, [], ◌∷◌, ◌++◌, length, refl, sym, ap, ◌∙◌, subst, inl, inr, arith, length-append}
use Rattle.std.specs.Prelude.{MatchBool, Option, Some, None, ◌==◌}
use Rattle.std.proofs.Common.{Ordering}
use Rattle.std.specs.Ordering.{nat_cmp, ordering_index}
use Rattle.std.specs.Cmp.Lexicographic.{slice_cmp}
use Rattle.std.specs.declared.cmp.Ordering.TheVariants.{Less, Equal, Greater}
use Rattle.std.proofs.lemmas.Bool.{cases_lt}
use Rattle.std.proofs.lemmas.List.{get_or_append_left, get_or_push, length-map}
use Rattle.index_model.specs.declared.entry.Entry.{Entry}
use Rattle.index_model.specs.Answers.{places}
use Rattle.query_engine.specs.declared.names.SortedNames.{SortedNames}
use Rattle.query_engine.specs.declared.way.Way.{Way}
use Rattle.query_engine.specs.declared.way.Way.TheVariants.{ByName, BySimple}
use Rattle.query_engine.specs.Asked.{is_asked}
use Rattle.query_engine.specs.declared.spelling.FrontedText.{FrontedText}
use Rattle.query_engine.specs.declared.listing.ListedName.{ListedName}
use Rattle.query_engine.specs.declared.listing.ListedNames.{ListedNames}
use Rattle.query_engine.specs.Listed.{is_listed, linkage_of, merged, names_of, AddsName, AreListedBy, AreListedTo, AreTextsTo, ComesBeforeEnd, EndsAt, HasSimple, IsEmpty}
use Rattle.query_engine.specs.Marks.{text_with}
use Rattle.query_engine.specs.Pairs.{ComesBefore}
use Rattle.query_engine.specs.Sorted.{name_at, AreNamesBy}
use Rattle.query_engine.proofs.ListingLaws.{names_added, entries_added, entries_none}
use Rattle.query_engine.proofs.MergedLaws.{merged_is}
use Rattle.query_engine.proofs.TextOrder.{before_itself, before_trans, before_flip, equal_is_same}

nothing_named : (es : List Entry) (plain : List ℕ) → merged (linkage_of es) [] plain ≡ plain
unfolding merged
nothing_named es plain = refl

-- ---- what comparisons say

pub has_it : (es : List Entry) (simple : SortedNames) (j : ℕ) (text : List ℕ) (o : Ordering) → j < length simple.groups.items → o ≡ slice_cmp nat_cmp (name_at es simple j) text → MatchBool (ordering_index o == 1) (HasSimple es simple j text) (HasSimple es simple j text → ⊥)
has_it es simple j text Less within is = λ h. before_itself text (subst (λ (w : List ℕ). ComesBefore w text) h.same (sym is))
has_it es simple j text Equal within is = record { within = within; same = equal_is_same (name_at es simple j) text (sym is) }
has_it es simple j text Greater within is = λ h. before_itself text (subst (ComesBefore text) h.same (before_flip (name_at es simple j) text (sym is)))

-- what comes before the end comes before the name there
pub before_name : (es : List Entry) (names : SortedNames) (k : ℕ) (end : Option FrontedText) (t : List ℕ) → EndsAt es names k end → ComesBeforeEnd t end → k < length names.groups.items → ComesBefore t (name_at es names k)
before_name es names k (Some text) t ends before lt = subst (ComesBefore t) ends.1 before
before_name es names k None t ends before lt = absurd (omega arith)

module _ (es : List Entry) (names simple : SortedNames) (named : AreNamesBy ByName es names) (simply : AreNamesBy BySimple es simple) where
  abbrev N : ℕ
  N = length names.groups.items

  abbrev S : ℕ
  S = length simple.groups.items

  abbrev listed : List ℕ → List ℕ
  listed t = places (is_listed t) es

  -- ---- one text more

  module _ (k j : ℕ) (ts : List (List ℕ)) (h : AreTextsTo es names simple k j ts) (t : List ℕ) where
    -- it comes behind all texts so far
    abbrev IsBehind : Type 0
    IsBehind = (i : ℕ) → i < length ts → ComesBefore (text_with ts i) t

    old_text : (i : ℕ) → i < length ts → text_with (ts ++ t ∷ []) i ≡ text_with ts i
    old_text i lt = get_or_append_left ts (t ∷ []) [] i lt

    new_text : (i : ℕ) → length ts ≤ i → i < length (ts ++ t ∷ []) → text_with (ts ++ t ∷ []) i ≡ t
    new_text i le lt =
        let here : i ≡ length ts = omega (arith, length-append ts (t ∷ [])) in
        get_or_push ts t [] i (sym here)

    last_text : (length ts < length (ts ++ t ∷ [])) × (text_with (ts ++ t ∷ []) (length ts) ≡ t)
    last_text = (omega (arith, length-append ts (t ∷ [])), get_or_push ts t [] (length ts) refl)

    kept : (P : List ℕ → Type 0) → (i : ℕ) → i < length (ts ++ t ∷ []) → ((m : ℕ) → m < length ts → P (text_with ts m)) → P t → P (text_with (ts ++ t ∷ []) i)
    kept P i lt old new = elim (cases_lt i (length ts)) [
      | inl low ↦ subst P (sym (old_text i low)) (old i low)
      | inr high ↦ subst P (sym (new_text i high lt)) new
    ]

    pub one_more : (k2 j2 : ℕ) → IsBehind
        → k ≤ k2 → j ≤ j2
        → ((m : ℕ) → k2 ≤ m → m < N → ComesBefore t (name_at es names m))
        → ((m : ℕ) → j2 ≤ m → m < S → ComesBefore t (name_at es simple m))
        → ((m : ℕ) → k ≤ m → m < k2 → t ≡ name_at es names m)
        → ((m : ℕ) → j ≤ m → m < j2 → t ≡ name_at es simple m)
        → AreTextsTo es names simple k2 j2 (ts ++ t ∷ [])
    one_more k2 j2 behind more_k more_j ahead_k ahead_j own_k own_j = record {
      ascending = λ a b lt within. elim (cases_lt b (length ts)) [
        | inl low ↦ rw (old_text a (omega arith), old_text b low) (h.ascending a b lt low)
        | inr high ↦ rw (old_text a (omega (arith, length-append ts (t ∷ []))), new_text b high within) (behind a (omega (arith, length-append ts (t ∷ []))))
      ];
      before_names = λ i m lt le within. kept (λ x. ComesBefore x (name_at es names m)) i lt (λ n less. h.before_names n m less (omega arith) within) (ahead_k m le within);
      before_simple = λ i m lt le within. kept (λ x. ComesBefore x (name_at es simple m)) i lt (λ n less. h.before_simple n m less (omega arith) within) (ahead_j m le within);
      has_names = λ m lt. elim (cases_lt m k) [
        | inl low ↦ let r = h.has_names m low in (r.0, omega (arith, r.1, length-append ts (t ∷ [])), old_text r.0 r.1 ∙ r.2)
        | inr high ↦ (length ts, last_text.0, last_text.1 ∙ own_k m high lt)
      ];
      has_simple = λ m lt. elim (cases_lt m j) [
        | inl low ↦ let r = h.has_simple m low in (r.0, omega (arith, r.1, length-append ts (t ∷ [])), old_text r.0 r.1 ∙ r.2)
        | inr high ↦ (length ts, last_text.0, last_text.1 ∙ own_j m high lt)
      ];
    }

    -- a text behind all so far that comes before the next names is none
    no_name : IsBehind → ((m : ℕ) → k ≤ m → m < N → ComesBefore t (name_at es names m)) → places (is_asked ByName t) es ≡ []
    no_name behind ahead = subst (λ (w : Way). places (is_asked w t) es ≡ []) named.way_is (named.own.all t (λ m lt same. elim (cases_lt m k) [
      | inl low ↦ let r = h.has_names m low in before_itself t (subst (λ (w : List ℕ). ComesBefore w t) (r.2 ∙ same) (behind r.0 r.1))
      | inr high ↦ before_itself t (subst (ComesBefore t) same (ahead m high lt))
    ]))

    no_simple : IsBehind → ((m : ℕ) → j ≤ m → m < S → ComesBefore t (name_at es simple m)) → places (is_asked BySimple t) es ≡ []
    no_simple behind ahead = subst (λ (w : Way). places (is_asked w t) es ≡ []) simply.way_is (simply.own.all t (λ m lt same. elim (cases_lt m j) [
      | inl low ↦ let r = h.has_simple m low in before_itself t (subst (λ (w : List ℕ). ComesBefore w t) (r.2 ∙ same) (behind r.0 r.1))
      | inr high ↦ before_itself t (subst (ComesBefore t) same (ahead m high lt))
    ]))

  -- from an index on all texts come behind one that comes before the first
  later_names : (t : List ℕ) (k : ℕ) → (k < N → ComesBefore t (name_at es names k)) → (m : ℕ) → k ≤ m → m < N → ComesBefore t (name_at es names m)
  later_names t k first m le lt = elim (cases_lt k m) [
    | inl low ↦ before_trans t (name_at es names k) (name_at es names m) (first (omega arith)) (named.own.ascending k m low lt)
    | inr high ↦ let same : k ≡ m = omega arith in subst (λ (w : ℕ). ComesBefore t (name_at es names w)) same (first (omega arith))
  ]

  later_simple : (t : List ℕ) (j : ℕ) → (j < S → ComesBefore t (name_at es simple j)) → (m : ℕ) → j ≤ m → m < S → ComesBefore t (name_at es simple m)
  later_simple t j first m le lt = elim (cases_lt j m) [
    | inl low ↦ before_trans t (name_at es simple j) (name_at es simple m) (first (omega arith)) (simply.own.ascending j m low lt)
    | inr high ↦ let same : j ≡ m = omega arith in subst (λ (w : ℕ). ComesBefore t (name_at es simple w)) same (first (omega arith))
  ]

  -- ---- a name more

  module _ (k j : ℕ) (old new : ListedNames) (h : AreListedTo es names simple k j old) where
    abbrev ts : List (List ℕ)
    ts = names_of old.names.items

    more : (k2 j2 : ℕ) (t ps : List ℕ) → AreTextsTo es names simple k2 j2 (ts ++ t ∷ []) → ps ≡ listed t → AddsName t ps old new → AreListedTo es names simple k2 j2 new
    more k2 j2 t ps texts is adds =
        let added : AddsName t (listed t) old new = subst (λ (w : List ℕ). AddsName t w old new) is adds in
        record {
          texts = subst (AreTextsTo es names simple k2 j2) (sym (names_added t (listed t) old new added)) texts;
          own = entries_added is_listed es t old new h.own added;
        }

    -- a simple name that comes before the next name
    pub simple_more : j < S → (k < N → ComesBefore (name_at es simple j) (name_at es names k)) → AddsName (name_at es simple j) (places (is_asked BySimple (name_at es simple j)) es) old new → AreListedTo es names simple k (j + 1) new
    simple_more lt before adds =
        let t : List ℕ = name_at es simple j in
        let behind : IsBehind k j ts h.texts t = λ i less. h.texts.before_simple i j less (omega arith) lt in
        let ahead = later_names t k before in
        let none : places (is_asked ByName t) es ≡ [] = no_name k j ts h.texts t behind ahead in
        let own : listed t ≡ places (is_asked BySimple t) es = sym (merged_is t es) ∙ ap (λ (w : List ℕ). merged (linkage_of es) w (places (is_asked BySimple t) es)) none ∙ nothing_named es (places (is_asked BySimple t) es) in
        more k (j + 1) t (places (is_asked BySimple t) es)
        (one_more k j ts h.texts t k (j + 1) behind (omega arith) (omega arith) ahead
        (λ m le less. simply.own.ascending j m (omega arith) less)
        (λ m le less. absurd (omega arith))
        (λ m le less. ap (name_at es simple) (omega arith)))
        (sym own) adds

    module _ (lt : k < N) where
      abbrev t : List ℕ
      t = name_at es names k

      behind : IsBehind k j ts h.texts t
      behind = λ i less. h.texts.before_names i k less (omega arith) lt

      -- a name with the simple name that is the same text
      pub name_with : j < S → name_at es simple j ≡ t → AddsName t (merged (linkage_of es) (places (is_asked ByName t) es) (places (is_asked BySimple t) es)) old new → AreListedTo es names simple (k + 1) (j + 1) new
      name_with less same adds =
          more (k + 1) (j + 1) t (merged (linkage_of es) (places (is_asked ByName t) es) (places (is_asked BySimple t) es))
          (one_more k j ts h.texts t (k + 1) (j + 1) behind (omega arith) (omega arith)
          (λ m le within. named.own.ascending k m (omega arith) within)
          (λ m le within. subst (λ (w : List ℕ). ComesBefore w (name_at es simple m)) same (simply.own.ascending j m (omega arith) within))
          (λ m le within. ap (name_at es names) (omega arith))
          (λ m le within. sym same ∙ ap (name_at es simple) (omega arith)))
          (merged_is t es) adds

      -- one without a simple name
      pub name_alone : (j < S → ComesBefore t (name_at es simple j)) → AddsName t (merged (linkage_of es) (places (is_asked ByName t) es) []) old new → AreListedTo es names simple (k + 1) j new
      name_alone before adds =
          let ahead = later_simple t j before in
          let none : places (is_asked BySimple t) es ≡ [] = no_simple k j ts h.texts t behind ahead in
          more (k + 1) j t (merged (linkage_of es) (places (is_asked ByName t) es) [])
          (one_more k j ts h.texts t (k + 1) j behind (omega arith) (omega arith)
          (λ m le within. named.own.ascending k m (omega arith) within)
          ahead
          (λ m le within. ap (name_at es names) (omega arith))
          (λ m le within. absurd (omega arith)))
          (ap (merged (linkage_of es) (places (is_asked ByName t) es)) (sym none) ∙ merged_is t es) adds

  -- ---- none and all

  none_texts : AreTextsTo es names simple 0 0 []
  none_texts = record {
    ascending = λ a b lt within. absurd (omega arith);
    before_names = λ i m lt le within. absurd (omega arith);
    before_simple = λ i m lt le within. absurd (omega arith);
    has_names = λ m lt. absurd (omega arith);
    has_simple = λ m lt. absurd (omega arith);
  }

  pub none_listed : (l : ListedNames) → IsEmpty l → AreListedTo es names simple 0 0 l
  none_listed l e = record {
    texts = subst (AreTextsTo es names simple 0 0) (sym (ap names_of e.names)) none_texts;
    own = entries_none is_listed es l e;
  }

  pub all_listed : (k j : ℕ) (l : ListedNames) → N ≤ k → S ≤ j → AreListedTo es names simple k j l → AreListedBy is_listed es l
  all_listed k j l all_k all_j h = record {
    ascending = h.texts.ascending;
    all = λ t none.
        let here : (i : ℕ) → i < length (names_of l.names.items) → text_with (names_of l.names.items) i ≢ t = λ i lt. none i (omega (arith, lt, length-map l.names.items (λ (n : ListedName). n.name.now))) in
        let no_named : places (is_asked ByName t) es ≡ [] = subst (λ (w : Way). places (is_asked w t) es ≡ []) named.way_is (named.own.all t (λ m lt same. (let r = h.texts.has_names m (omega arith) in here r.0 r.1 (r.2 ∙ same)))) in
        let no_simply : places (is_asked BySimple t) es ≡ [] = subst (λ (w : Way). places (is_asked w t) es ≡ []) simply.way_is (simply.own.all t (λ m lt same. (let r = h.texts.has_simple m (omega arith) in here r.0 r.1 (r.2 ∙ same)))) in
        sym (merged_is t es) ∙ ap (λ (w : List ℕ). merged (linkage_of es) w (places (is_asked BySimple t) es)) no_named ∙ ap (merged (linkage_of es) []) no_simply ∙ nothing_named es [];
    own = h.own;
  }

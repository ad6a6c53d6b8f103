-- There are as many groups as distinct texts.
use Rattle.std.proofs.Common.{◌≡◌, ◌≢◌, ℕ, ◌+◌, ◌-◌, ◌<◌, Bool, true, false, cond, List, [], ◌∷◌, length, get_or, take, drop, map, refl, sym, ap, ◌∙◌, subst, arith}
use mathlib.Core.Bool.{◌&&◌, ◌||◌, true≢false}
use Rattle.std.specs.Prelude.{bytes_eq, filter}
use Rattle.std.specs.List.{list_any, enumerate_from, range_with_len, AllByRecursion, IsDistinct}
use Rattle.std.specs.Set.{distinct_count}
use Rattle.std.proofs.lemmas.Cmp.{nat_list_eq_equiv}
use Rattle.std.proofs.lemmas.List.{length-take-le, length-drop}
use Rattle.std.proofs.lemmas.List.Folds.{list_any_at}
use Rattle.std.proofs.lemmas.List.FromFn.{length-map-range_with_len, get_or-map-range_with_len}
use Rattle.std.proofs.lemmas.Map.Keys.{IsDistinct-from_apart, IsDistinct-head, IsDistinct-tail, IsDistinct-cons}
use Rattle.std.proofs.lemmas.Map.Made.{length-from_keys}
use Rattle.common_laws.proofs.Booleans.{same_each_way}
use Rattle.index_model.specs.declared.entry.Entry.{Entry}
use Rattle.index_model.specs.Answers.{places}
use Rattle.query_engine.specs.declared.way.Way.{Way}
use Rattle.query_engine.specs.declared.names.SortedNames.{SortedNames}
use Rattle.query_engine.specs.Asked.{is_counted, text_of, is_asked}
use Rattle.query_engine.specs.declared.way.Way.TheVariants.{ByName}
use Rattle.query_engine.specs.Counts.{text_count, name_count}
use Rattle.query_engine.specs.Groups.{group_at}
use Rattle.query_engine.specs.Sorted.{name_at, AreNamesOf}
use Rattle.query_engine.proofs.TextOrder.{same_from_eq, eq_from_same, eq_from_other, before_itself, filter_none, some_passes}

-- ---- tests of lists

module _ {X : Type 0} where
  pub any_same : (p q : X → Bool) (xs : List X) → ((x : X) → p x ≡ q x) → list_any p xs ≡ list_any q xs
  any_same p q [] e = refl
  any_same p q (x ∷ xs) e = λ i. e x i || any_same p q xs e i

  pub any_filter : (p q : X → Bool) (xs : List X) → list_any p (filter q xs) ≡ list_any (λ x. q x && p x) xs
  any_filter p q [] = refl
  any_filter p q (x ∷ xs) = elim (q x) as (λ b. list_any p (cond b (x ∷ filter q xs) (filter q xs)) ≡ ((b && p x) || list_any (λ y. q y && p y) xs)) [
    | true ↦ ap (λ b. p x || b) (any_filter p q xs)
    | false ↦ any_filter p q xs
  ]

  none_passes : (p : X → Bool) (xs : List X) → filter p xs ≡ [] → list_any p xs ≡ false
  none_passes p [] e = refl
  none_passes p (x ∷ xs) e = by (p x) refl (none_passes p xs)
    where
      by : (b : Bool) → p x ≡ b → (filter p xs ≡ [] → list_any p xs ≡ false) → list_any p (x ∷ xs) ≡ false
      by true h rest = let g : x ∷ filter p xs ≡ [] = rw h at e in cc
      by false h rest = let g : filter p xs ≡ [] = rw h at e in rw h (rest g)

  all_filter : (P : X → Type 0) (p : X → Bool) (xs : List X) → AllByRecursion P xs → AllByRecursion P (filter p xs)
  all_filter P p [] all = all
  all_filter P p (x ∷ xs) all = elim (p x) as (λ b. AllByRecursion P (cond b (x ∷ filter p xs) (filter p xs))) [
    | true ↦ (all.0, all_filter P p xs all.1)
    | false ↦ all_filter P p xs all.1
  ]

  pub distinct_filter : (e : X → X → Bool) (p : X → Bool) (xs : List X) → IsDistinct e xs → IsDistinct e (filter p xs)
  distinct_filter e p [] d = d
  distinct_filter e p (x ∷ xs) d = elim (p x) as (λ b. IsDistinct e (cond b (x ∷ filter p xs) (filter p xs))) [
    | true ↦ IsDistinct-cons e x (filter p xs) (all_filter (λ y. e x y ≡ false) p xs (IsDistinct-head e x xs d)) (distinct_filter e p xs (IsDistinct-tail e x xs d))
    | false ↦ distinct_filter e p xs (IsDistinct-tail e x xs d)
  ]

pub any_map : {X Y : Type 0} (p : Y → Bool) (f : X → Y) (xs : List X) → list_any p (map f xs) ≡ list_any (λ x. p (f x)) xs
any_map p f [] = refl
any_map p f (x ∷ xs) = ap (λ b. p (f x) || b) (any_map p f xs)

-- ---- whether there is a place

pub any_listed : (t : Entry → Bool) (k : ℕ) (es : List Entry) → list_any (λ (e : ℕ × Entry). t e.1) (enumerate_from k es) ≡ list_any t es
any_listed t k [] = refl
any_listed t k (e ∷ es) = ap (λ b. t e || b) (any_listed t (k + 1) es)

no_place : (t : Entry → Bool) (es : List Entry) → list_any t es ≡ false → places t es ≡ []
no_place t es none = ap (map (λ (e : ℕ × Entry). e.0)) (filter_none (λ (e : ℕ × Entry). t e.1) (enumerate_from 0 es) (any_listed t 0 es ∙ none))

nil_from_map : {X Y : Type 0} (f : X → Y) (xs : List X) → map f xs ≡ [] → xs ≡ []
nil_from_map f [] e = refl
nil_from_map f (x ∷ xs) e = cc

no_entry : (t : Entry → Bool) (es : List Entry) → places t es ≡ [] → list_any t es ≡ false
no_entry t es none = sym (any_listed t 0 es) ∙ none_passes (λ (e : ℕ × Entry). t e.1) (enumerate_from 0 es) (nil_from_map (λ (e : ℕ × Entry). e.0) _ none)

-- ---- the texts

-- the texts of the groups
unfoldable pub group_texts : List Entry → SortedNames → List (List ℕ)
group_texts es n = map (name_at es n) (range_with_len 0 (length n.groups.items))

module _ (es : List Entry) (n : SortedNames) (names : AreNamesOf es n) where
  abbrev size : ℕ
  size = length n.groups.items

  pub texts_apart : IsDistinct bytes_eq (group_texts es n)
  unfolding group_texts
  texts_apart = IsDistinct-from_apart bytes_eq (map (name_at es n) (range_with_len 0 size)) (λ i j d lt to.
      let within : j < size = omega (arith, length-map-range_with_len (name_at es n) 0 size) in
      let first : get_or (map (name_at es n) (range_with_len 0 size)) i d ≡ name_at es n i = get_or-map-range_with_len (name_at es n) 0 size i i d (omega arith) (omega arith) in
      let second : get_or (map (name_at es n) (range_with_len 0 size)) j d ≡ name_at es n j = get_or-map-range_with_len (name_at es n) 0 size j j d within (omega arith) in
      rw (first, second) (eq_from_other (name_at es n i) (name_at es n j) (λ same. before_itself (name_at es n j) (rw same at (names.ascending i j lt within)))))

  pub texts_length : length (group_texts es n) ≡ size
  unfolding group_texts
  texts_length = length-map-range_with_len (name_at es n) 0 size

  -- an index has the text
  pub text_found : (q : List ℕ) → list_any (bytes_eq q) (group_texts es n) ≡ true → (k : ℕ) × (k < size) × (name_at es n k ≡ q)
  unfolding group_texts
  text_found q some =
      let r = some_passes (bytes_eq q) (map (name_at es n) (range_with_len 0 size)) some in
      let within : r.0 < size = omega (arith, r.1, length-map-range_with_len (name_at es n) 0 size) in
      let at : get_or (map (name_at es n) (range_with_len 0 size)) r.0 [] ≡ name_at es n r.0 = get_or-map-range_with_len (name_at es n) 0 size r.0 r.0 [] within (omega arith) in
      (r.0, within, sym at ∙ sym (same_from_eq q _ (r.2 [])))

  text_missed : (q : List ℕ) → list_any (bytes_eq q) (group_texts es n) ≡ false → (k : ℕ) → k < size → name_at es n k ≢ q
  unfolding group_texts
  text_missed q none k lt same =
      let at : get_or (map (name_at es n) (range_with_len 0 size)) k [] ≡ name_at es n k = get_or-map-range_with_len (name_at es n) 0 size k k [] lt (omega arith) in
      let within : k < length (map (name_at es n) (range_with_len 0 size)) = omega (arith, length-map-range_with_len (name_at es n) 0 size) in
      true≢false (sym (list_any_at (bytes_eq q) (map (name_at es n) (range_with_len 0 size)) k [] within (rw at (eq_from_same q (name_at es n k) (sym same)))) ∙ none)

  -- a group has an entry
  some_entry : (k : ℕ) → k < size → places (is_asked n.way (name_at es n k)) es ≡ [] → ⊥
  some_entry k lt none =
      let g = group_at n.groups.items k in
      let r = names.each k lt in
      let empty : length (take (g.end - g.start) (drop g.start n.places.items)) ≡ 0 = ap length (r.members ∙ none) in
      let sized : length (take (g.end - g.start) (drop g.start n.places.items)) ≡ g.end - g.start = length-take-le (g.end - g.start) (drop g.start n.places.items) (omega (arith, length-drop g.start n.places.items, r.within)) in
      omega (arith, r.some)

  -- the groups have the texts of the entries
  pub same_texts : (q : List ℕ) → list_any (bytes_eq q) (group_texts es n) ≡ list_any (is_asked n.way q) es
  same_texts q = same_each_way (list_any (bytes_eq q) (group_texts es n)) (list_any (is_asked n.way q) es) there back
    where
      there : list_any (bytes_eq q) (group_texts es n) ≡ true → list_any (is_asked n.way q) es ≡ true
      there some =
          let r = text_found q some in
          by (list_any (is_asked n.way q) es) refl (subst (λ (w : List ℕ). places (is_asked n.way w) es ≡ [] → ⊥) r.2 (some_entry r.0 r.1))
        where
          by : (b : Bool) → list_any (is_asked n.way q) es ≡ b → (places (is_asked n.way q) es ≡ [] → ⊥) → list_any (is_asked n.way q) es ≡ true
          by true e f = e
          by false e f = absurd (f (no_place (is_asked n.way q) es e))

      back : list_any (is_asked n.way q) es ≡ true → list_any (bytes_eq q) (group_texts es n) ≡ true
      back some = by (list_any (bytes_eq q) (group_texts es n)) refl
        where
          by : (b : Bool) → list_any (bytes_eq q) (group_texts es n) ≡ b → list_any (bytes_eq q) (group_texts es n) ≡ true
          by true e = e
          by false e = absurd (true≢false (sym some ∙ no_entry (is_asked n.way q) es (names.all q (text_missed q e))))

-- ---- the texts of entries that pass a test

pub any_text : (way : Way) (p : Entry → Bool) (q : List ℕ) (es : List Entry) → list_any (bytes_eq q) (map (text_of way) (filter p es)) ≡ list_any (λ e. p e && bytes_eq (text_of way e) q) es
any_text way p q es =
    any_map (bytes_eq q) (text_of way) (filter p es) ∙ any_filter (λ e. bytes_eq q (text_of way e)) p es
    ∙ any_same (λ e. p e && bytes_eq q (text_of way e)) (λ e. p e && bytes_eq (text_of way e) q) es (λ e. ap (λ b. p e && b) (nat_list_eq_equiv.symm q (text_of way e)))

pub group_count : (es : List Entry) (n : SortedNames) → AreNamesOf es n → length n.groups.items ≡ text_count n.way es
group_count es n names = sym (texts_length es n names) ∙ length-from_keys nat_list_eq_equiv (group_texts es n) (map (text_of n.way) (filter (is_counted n.way) es)) (texts_apart es n names) (λ q. same_texts es n names q ∙ sym (any_text n.way (is_counted n.way) q es))

pub filter_all : {X : Type 0} (xs : List X) → filter (λ _. true) xs ≡ xs
filter_all [] = refl
filter_all (x ∷ xs) = ap (λ w. x ∷ w) (filter_all xs)

-- by name all entries count
pub all_counted : (es : List Entry) → text_count ByName es ≡ name_count es
all_counted es = ap (λ (w : List Entry). distinct_count bytes_eq (map (λ (e : Entry). e.name) w)) (filter_all es)

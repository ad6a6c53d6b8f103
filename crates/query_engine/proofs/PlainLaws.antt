-- The names of entries that aren't linkage entries.
use Rattle.std.proofs.Common.{◌≡◌, ℕ, suc, ◌+◌, ◌<◌, Bool, true, false, cond, List, [], ◌∷◌, length, get_or, map, refl, sym, ap, ◌∙◌, arith}
use mathlib.Core.Bool.{not, ◌&&◌, ◌||◌, true≢false}
use Rattle.std.specs.Prelude.{bytes_eq, filter, count_by, option_map, unwrap_or}
use Rattle.std.specs.List.{list_any, enumerate_from, range_with_len}
use Rattle.std.proofs.lemmas.Cmp.{nat_list_eq_equiv}
use Rattle.std.proofs.lemmas.List.FromFn.{get_or-enumerate_from, length-enumerate_from, sum_by-map-range_with_len_more}
use Rattle.std.proofs.lemmas.List.Sums.{length-filter}
use Rattle.std.proofs.lemmas.Map.Made.{length-from_keys}
use Rattle.std.proofs.lemmas.Map.Views.{any-filter_same}
use Rattle.std.proofs.lemmas.Option.{slice_get_read, slice_get-get_or}
use Rattle.index_model.specs.declared.entry.Entry.{Entry}
use Rattle.index_model.specs.Answers.{places}
use Rattle.query_engine.specs.declared.names.SortedNames.{SortedNames}
use Rattle.query_engine.specs.declared.way.Way.{Way}
use Rattle.query_engine.specs.declared.way.Way.TheVariants.{ByName}
use Rattle.query_engine.specs.Asked.{is_asked}
use Rattle.query_engine.specs.Counts.{is_plain, name_count, without_linkage}
use Rattle.query_engine.specs.Sorted.{name_at, AreNamesOf}
use Rattle.query_engine.proofs.TextOrder.{same_from_eq}
use Rattle.query_engine.proofs.CountLaws.{any_same, any_filter, any_map, any_listed, any_text, group_texts, texts_apart, same_texts, distinct_filter}

pub is_plain_at : (es : List Entry) (p : ℕ) (e : Entry) → p < length es → e ≡ get_or es p e → is_plain es p ≡ not e.linkage
is_plain_at es p e lt is = ap (λ o. unwrap_or (option_map (λ (x : Entry). not x.linkage) o) false) (slice_get_read es (length es) p e refl lt is)

-- an entry with the name isn't a linkage entry
abbrev pub has_plain : List Entry → List ℕ → Bool
has_plain es q = list_any (is_plain es) (places (is_asked ByName q) es)

module _ {X : Type 0} where
  any_same_at : (p q : X → Bool) (xs : List X) (d : X) → ((k : ℕ) → k < length xs → p (get_or xs k d) ≡ q (get_or xs k d)) → list_any p xs ≡ list_any q xs
  any_same_at p q [] d e = refl
  any_same_at p q (x ∷ xs) d e =
      let first : p x ≡ q x = e 0 (omega arith) in
      let rest : list_any p xs ≡ list_any q xs = any_same_at p q xs d (λ k lt. e (suc k) (omega arith)) in
      λ i. first i || rest i

  any_weaker : (p q : X → Bool) → ((x : X) → p x ≡ true → q x ≡ true) → (xs : List X) → list_any p xs ≡ true → list_any q xs ≡ true
  any_weaker p q f [] some = some
  any_weaker p q f (x ∷ xs) some = by (p x) refl (any_weaker p q f xs)
    where
      by : (b : Bool) → p x ≡ b → (list_any p xs ≡ true → list_any q xs ≡ true) → list_any q (x ∷ xs) ≡ true
      by true h rest = rw (f x h) refl
      by false h rest = let g : list_any p xs ≡ true = rw h at some in rw (rest g) (or_true (q x))
        where
          or_true : (b : Bool) → (b || true) ≡ true
          or_true true = refl
          or_true false = refl

abbrev Placed : Type 0
Placed = ℕ × Entry

plain_listed : (es : List Entry) (q : List ℕ) → list_any (λ (e : Placed). is_asked ByName q e.1 && is_plain es e.0) (enumerate_from 0 es) ≡ list_any (λ (e : Placed). is_asked ByName q e.1 && not e.1.linkage) (enumerate_from 0 es)
plain_listed [] q = refl
plain_listed (x ∷ es) q =
    let all : List Entry = x ∷ es in
    any_same_at (λ (e : Placed). is_asked ByName q e.1 && is_plain all e.0) (λ (e : Placed). is_asked ByName q e.1 && not e.1.linkage) (enumerate_from 0 all) (0, x) (λ k lt.
    let within : k < length all = omega (arith, length-enumerate_from 0 all) in
    let at : get_or (enumerate_from 0 all) k (0, x) ≡ (k, get_or all k x) = get_or-enumerate_from 0 all k (0, x) within ∙ ap (λ (j : ℕ). (j, get_or all k x)) (omega arith) in
    let plain : is_plain all k ≡ not (get_or all k x).linkage = ap (λ o. unwrap_or (option_map (λ (e : Entry). not e.linkage) o) false) (slice_get-get_or all k x within) in
    rw at (ap (λ b. bytes_eq (get_or all k x).name q && b) plain))

swapped : (a b : Bool) → a && b ≡ b && a
swapped true true = refl
swapped true false = refl
swapped false true = refl
swapped false false = refl

abbrev named : List ℕ → Entry → Bool
named q e = not e.linkage && bytes_eq e.name q

plain_is : (es : List Entry) (q : List ℕ) → has_plain es q ≡ list_any (named q) es
plain_is es q =
    any_map (is_plain es) (λ (e : Placed). e.0) (filter (λ (e : Placed). is_asked ByName q e.1) (enumerate_from 0 es))
    ∙ any_filter (λ (e : Placed). is_plain es e.0) (λ (e : Placed). is_asked ByName q e.1) (enumerate_from 0 es)
    ∙ plain_listed es q
    ∙ any_listed (λ (e : Entry). is_asked ByName q e && not e.linkage) 0 es
    ∙ any_same (λ (e : Entry). is_asked ByName q e && not e.linkage) (named q) es (λ e. swapped (bytes_eq e.name q) (not e.linkage))

second_holds : (a b : Bool) → a && b ≡ true → b ≡ true
second_holds true b h = h
second_holds false b h = absurd (true≢false (sym h))

absorbs : (a b : Bool) → (a ≡ true → b ≡ true) → (a && b) ≡ a
absorbs true b f = f refl
absorbs false b f = refl

module _ (es : List Entry) (n : SortedNames) (names : AreNamesOf es n) (way : n.way ≡ ByName) where
  same_members : (q : List ℕ) → list_any (bytes_eq q) (filter (has_plain es) (group_texts es n)) ≡ list_any (bytes_eq q) (map (λ (e : Entry). e.name) (without_linkage es))
  same_members q =
      let own : list_any (bytes_eq q) (group_texts es n) ≡ list_any (is_asked ByName q) es = same_texts es n names q ∙ ap (λ (w : Way). list_any (is_asked w q) es) way in
      any-filter_same (bytes_eq q) (has_plain es) (has_plain es q) (λ k e. ap (has_plain es) (sym (same_from_eq q k e))) (group_texts es n)
      ∙ (λ i. plain_is es q i && own i)
      ∙ absorbs (list_any (named q) es) (list_any (is_asked ByName q) es) (any_weaker (named q) (is_asked ByName q) (λ e h. second_holds (not e.linkage) (bytes_eq e.name q) h) es)
      ∙ sym (any_text ByName (λ (e : Entry). not e.linkage) q es)

  pub plain_count : count_by (has_plain es) (group_texts es n) ≡ name_count (without_linkage es)
  plain_count =
      sym (length-filter (has_plain es) (group_texts es n))
      ∙ length-from_keys nat_list_eq_equiv (filter (has_plain es) (group_texts es n)) (map (λ (e : Entry). e.name) (without_linkage es)) (distinct_filter bytes_eq (has_plain es) (group_texts es n) (texts_apart es n names)) same_members

-- ---- the loop

-- how many of the first texts have such an entry
abbrev pub plain_upto : List Entry → SortedNames → ℕ → ℕ
plain_upto es n k = count_by (has_plain es) (map (name_at es n) (range_with_len 0 k))

pub plain_more : (es : List Entry) (n : SortedNames) (k : ℕ) (b : Bool) → b ≡ has_plain es (name_at es n k) → plain_upto es n (k + 1) ≡ plain_upto es n k + cond b 1 0
plain_more es n k b is = rw is (sum_by-map-range_with_len_more (λ (t : List ℕ). cond (has_plain es t) 1 0) (name_at es n) 0 k k (omega arith))

pub plain_all : (es : List Entry) (n : SortedNames) → AreNamesOf es n → n.way ≡ ByName → (k : ℕ) → k ≡ length n.groups.items → plain_upto es n k ≡ name_count (without_linkage es)
unfolding group_texts
plain_all es n names way k is = rw is (plain_count es n names way)

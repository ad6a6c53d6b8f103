-- Names, their strings, and their order.
use Rattle.std.proofs.Common.{◌≡◌, ℕ, ◌+◌, ◌%◌, ◌<◌, ◌≤◌, Bool, true, false, List, [], ◌∷◌, length, get_or, take, drop, map, Option, refl, sym, ap, ◌∙◌, arith}
use mathlib.Core.Bool.{true≢false}
use Rattle.std.specs.Prelude.{All, bytes_eq, flat_map, position, unwrap_or}
use Rattle.std.specs.List.Sorted.{IsPermutation, IsSorted}
use Rattle.std.specs.Ordering.{nat_cmp, is_lt}
use Rattle.std.specs.Cmp.Lexicographic.{slice_cmp}
use Rattle.std.proofs.lemmas.Cmp.{nat_list_cmp_total, nat_list_eq_equiv}
use Rattle.std.proofs.lemmas.List.{get_or-map, length-map, length-take-le, take-map, get_or-take, get_or_default}
use Rattle.std.proofs.lemmas.List.Concat.{length-flat_map}
use Rattle.std.proofs.lemmas.List.Sorted.{sorted_far, ranks_by, IsPermutation-map, IsPermutation-sym, Contains-permutation, All-permutation}
use Rattle.std.proofs.lemmas.Map.Keys.{IsDistinct-IsPermutation, apart_from_distinct}
use Rattle.common_laws.proofs.Appended.{flat_map-map}
use Rattle.index_model.specs.Hashes.{name_hash}
use Rattle.index_model.specs.Layout.{ended, start_of}
use Rattle.index_model.specs.NameIndex.{name_lt, in_index_order, string_offset}
use Rattle.index_model.specs.Ordered.{ascending, bytes_lt, place_of}
use Rattle.query_engine.proofs.TextOrder.{bytes_lt_is, eq_from_same}
use Rattle.debugnames_write.specs.declared.name.Name.{Name}
use Rattle.index_model.specs.Order.{Rises}
use Rattle.debugnames_write.specs.Seen.{name_key, texts}
use Rattle.debugnames_write.proofs.Lists.{around, position_at}
use Rattle.index_model.proofs.Orders.{rises_from_pairs, ascending_is}
use Rattle.index_model.proofs.IndexOrders.{index_key, name_order, by_index_key}
use Rattle.debugnames_write.proofs.Orders.{rising_distinct}

-- ---- where things begin

pub start_is : {X : Type 0} (f : X → List ℕ) (xs : List X) (k : ℕ) → start_of (map f xs) k ≡ length (flat_map f (take k xs))
start_is f xs k =
    sym (length-flat_map (λ (g : List ℕ). g) (take k (map f xs)))
    ∙ ap (λ (w : List (List ℕ)). length (flat_map (λ (g : List ℕ). g) w)) (take-map f k xs)
    ∙ ap (λ (w : List ℕ). length w) (flat_map-map (λ (g : List ℕ). g) f (take k xs))

-- ---- strings

module _ (strings : List (List ℕ)) (rises : Rises bytes_lt strings) (k : ℕ) (s : List ℕ) (lt : k < length strings) (is : s ≡ get_or strings k s) where
  place_is : place_of bytes_eq s strings ≡ k
  place_is =
      let size : length (take k strings) ≡ k = length-take-le k strings (omega arith) in
      ap (λ (xs : List (List ℕ)). unwrap_or (position (bytes_eq s) xs) 0) (around strings k s lt is)
      ∙ ap (λ (o : Option ℕ). unwrap_or o 0) (position_at (bytes_eq s) (take k strings) s (drop (k + 1) strings) (λ j d less. other j d (omega (arith, size))) (eq_from_same s s refl))
      ∙ size
    where
      other : (j : ℕ) (d : List ℕ) → j < k → bytes_eq s (get_or (take k strings) j d) ≡ false
      other j d less =
          let apart : bytes_eq (get_or strings j s) (get_or strings k s) ≡ false = apart_from_distinct bytes_eq strings j k s (rising_distinct strings rises) less lt in
          let own : get_or (take k strings) j d ≡ get_or strings j s = get_or-take k strings j d less ∙ get_or_default strings j d s (omega arith) in
          rw own (nat_list_eq_equiv.symm s (get_or strings j s) ∙ (rw (← is) at apart))

  pub string_is : (old : ℕ) → string_offset old strings s ≡ old + length (flat_map ended (take k strings))
  string_is old = ap (λ (p : ℕ). old + start_of (map ended strings) p) place_is ∙ ap (λ (n : ℕ). old + n) (start_is ended strings k)

-- ---- the order of the index

module _ (n : ℕ) (before after : List Name) (rises : Rises bytes_lt (texts before)) (many : length (texts before) ≡ n)
    (each : All (λ m. (m.hash ≡ name_hash m.text.now) × (m.bucket ≡ name_hash m.text.now % n)) before)
    (moved : IsPermutation before after) (sorted : IsSorted (λ x y. slice_cmp nat_cmp (name_key x) (name_key y)) after) where
  abbrev Right : Name → Type 0
  Right m = (m.hash ≡ name_hash m.text.now) × (m.bucket ≡ name_hash m.text.now % n)

  each_after : All Right after
  each_after = All-permutation Right before after moved each

  key_is : (m : Name) → Right m → name_key m ≡ index_key n m.text.now
  key_is m r = λ i. r.1 i ∷ r.0 i ∷ m.text.now

  texts_moved : IsPermutation (texts before) (texts after)
  texts_moved = IsPermutation-map (λ (m : Name). m.text.now) before after moved

  long : length (texts after) ≡ length after
  long = length-map after (λ (m : Name). m.text.now)

  -- of two names the later isn't below the earlier
  not_below : (i j : ℕ) (d : Name) → i ≤ j → j < length after → name_lt n (get_or after j d).text.now (get_or after i d).text.now ≡ false
  not_below i j d le lt =
      let far = sorted_far (λ x y. is_lt (slice_cmp nat_cmp (name_key x) (name_key y))) (ranks_by nat_list_cmp_total name_key) after sorted i j d le lt in
      let x : Name = get_or after i d in
      let y : Name = get_or after j d in
      by_index_key n y.text.now x.text.now ∙ sym (bytes_lt_is (index_key n y.text.now) (index_key n x.text.now))
      ∙ (λ k. is_lt (slice_cmp nat_cmp (sym (key_is y (each_after j d lt)) k) (sym (key_is x (each_after i d (omega arith))) k))) ∙ far

  below_later : (i j : ℕ) (d : Name) → i < j → j < length after → name_lt n (get_or after i d).text.now (get_or after j d).text.now ≡ true
  below_later i j d lt to = by (name_lt n (get_or after i d).text.now (get_or after j d).text.now) refl
    where
      apart : bytes_eq (get_or after i d).text.now (get_or after j d).text.now ≡ false
      apart =
          let distinct = IsDistinct-IsPermutation bytes_eq nat_list_eq_equiv.symm (texts before) (texts after) texts_moved (rising_distinct (texts before) rises) in
          let at = apart_from_distinct bytes_eq (texts after) i j d.text.now distinct lt (omega (arith, long)) in
          let first : get_or (texts after) i d.text.now ≡ (get_or after i d).text.now = get_or-map (λ (m : Name). m.text.now) after i d d.text.now (omega arith) in
          let second : get_or (texts after) j d.text.now ≡ (get_or after j d).text.now = get_or-map (λ (m : Name). m.text.now) after j d d.text.now to in
          rw (first, second) at at

      by : (b : Bool) → name_lt n (get_or after i d).text.now (get_or after j d).text.now ≡ b → name_lt n (get_or after i d).text.now (get_or after j d).text.now ≡ true
      by true e = e
      by false e =
          let same = (name_order n).apart _ _ e (not_below i j d (omega arith) to) in
          absurd (true≢false (sym (eq_from_same _ _ same) ∙ apart))

  order_rises : Rises (name_lt n) (texts after)
  order_rises = rises_from_pairs (name_lt n) (texts after) (λ i j d lt to. up after i j d lt to below_later)
    where
      up : (ms : List Name) (i j : ℕ) (d : List ℕ) → i < j → j < length (texts ms) → ((i j : ℕ) (d : Name) → i < j → j < length ms → name_lt n (get_or ms i d).text.now (get_or ms j d).text.now ≡ true)
          → name_lt n (get_or (texts ms) i d) (get_or (texts ms) j d) ≡ true
      up [] i j d lt to h = absurd (omega arith)
      up (m ∷ ms) i j d lt to h =
          let all : List Name = m ∷ ms in
          let size : length (texts all) ≡ length all = length-map all (λ (m : Name). m.text.now) in
          let first : get_or (texts all) i d ≡ (get_or all i m).text.now = get_or-map (λ (m : Name). m.text.now) all i m d (omega arith) in
          let second : get_or (texts all) j d ≡ (get_or all j m).text.now = get_or-map (λ (m : Name). m.text.now) all j m d (omega arith) in
          rw (first, second) (h i j m lt (omega (arith, size)))

  pub index_order : texts after ≡ in_index_order (texts before)
  index_order = sym (ap (λ (k : ℕ). ascending (name_lt k) (texts before)) many ∙ ascending_is (name_lt n) (name_order n) (texts before) (texts after) order_rises
      (λ z c. Contains-permutation (texts before) (texts after) z texts_moved c)
      (λ z c. Contains-permutation (texts after) (texts before) z (IsPermutation-sym (texts before) (texts after) texts_moved) c))

-- What stands where in bytes that were laid out.
use Rattle.std.proofs.Common.{◌≡◌, ℕ, zero, suc, ◌+◌, ◌-◌, ◌*◌, ◌/◌, ◌^◌, ◌<◌, ◌≤◌, List, [], ◌∷◌, ◌++◌, length, get_or, take, drop, map, Result, Ok, refl, sym, ap, ◌∙◌, subst, arith}
use Rattle.std.specs.Prelude.{flat_map, slice_range}
use Rattle.std.specs.List.{range_with_len}
use Rattle.std.proofs.lemmas.List.{append-nil, length-append, drop_at, take_at, take-append-drop, drop_more, length-take-le, length-map, get_or-map}
use Rattle.std.proofs.lemmas.List.Concat.{flat_map-append}
use Rattle.std.proofs.lemmas.List.FromFn.{fill_by_all, length-map-range_with_len, get_or-map-range_with_len}
use Rattle.std.proofs.Math.Nat.{mul-div_cancel_left}
use Rattle.common_laws.proofs.Lists.{regrouped}
use Rattle.byteorder.specs.Numbers.{little_number-reads_back}
use Rattle.ix_base.specs.Reading.{Input}
use Rattle.index_model.specs.Layout.{below, field}
use Rattle.byteorder.specs.Endian.{little_bytes}
use Rattle.index_model.specs.Meaning.{each}
use Rattle.index_model.specs.GdbAreas.{items}

-- ---- what stands where

-- the part stands in the bytes at a place
pub record Stands (at : ℕ) (part bytes : List ℕ) : Type 0 where
  pub front : List ℕ
  pub behind : List ℕ
  pub is : bytes ≡ front ++ (part ++ behind)
  pub size : length front ≡ at

module _ {at : ℕ} {part bytes : List ℕ} (s : Stands at part bytes) where
  pub from_there : drop at bytes ≡ part ++ s.behind
  from_there = ap (drop at) s.is ∙ drop_at s.front (part ++ s.behind) at s.size

  pub is_within : at + length part ≤ length bytes
  is_within = omega (arith, ap length s.is, length-append s.front (part ++ s.behind), length-append part s.behind, s.size)

  pub taken : (n : ℕ) → length part ≡ n → take n (drop at bytes) ≡ part
  taken n size = ap (take n) from_there ∙ take_at part s.behind n size

  pub range_is : (to : ℕ) → at + length part ≡ to → slice_range bytes at to ≡ part
  range_is to end = taken (to - at) (omega (arith, end))

  -- what stands in a part stands in the whole
  pub stands_in : {k : ℕ} {small : List ℕ} → Stands k small part → Stands (at + k) small bytes
  stands_in {k} {small} t = record {
    front = s.front ++ t.front;
    behind = t.behind ++ s.behind;
    is = s.is ∙ ap (λ (w : List ℕ). s.front ++ (w ++ s.behind)) t.is ∙ regrouped s.front t.front small t.behind s.behind;
    size = length-append s.front t.front ∙ (λ i. s.size i + t.size i);
  }

-- a number in bytes reads back
pub field_is : (w n at : ℕ) {bytes : List ℕ} → Stands at (little_bytes w n) bytes → n < 256 ^ w → field w at bytes ≡ n
field_is w n at s lt = ap (λ (xs : List ℕ). field w 0 xs) (from_there s) ∙ little_number-reads_back w n s.behind lt

-- ---- parts one after the other

pub stands_first : (a b : List ℕ) → Stands 0 a (a ++ b)
stands_first a b = record { front = []; behind = b; is = refl; size = refl }

pub stands_last : (a b : List ℕ) → Stands (length a) b (a ++ b)
stands_last a b = record { front = a; behind = []; is = sym (ap (λ (w : List ℕ). a ++ w) (append-nil b)); size = refl }

pub stands_at : {at k : ℕ} {part bytes : List ℕ} → at ≡ k → Stands at part bytes → Stands k part bytes
stands_at {part = part} {bytes = bytes} e s = subst (λ (n : ℕ). Stands n part bytes) e s

module _ {X : Type 0} (f : X → List ℕ) where
  -- each item stands behind those before it
  pub stands_item : (xs : List X) (k : ℕ) (d : X) → k < length xs → Stands (length (flat_map f (take k xs))) (f (get_or xs k d)) (flat_map f xs)
  stands_item xs k d lt = record {
    front = flat_map f (take k xs);
    behind = flat_map f (drop (k + 1) xs);
    is = ap (flat_map f) (sym (take-append-drop k xs)) ∙ flat_map-append f (take k xs) (drop k xs) ∙ ap (λ (w : List X). flat_map f (take k xs) ++ flat_map f w) (drop_more xs k d lt);
    size = refl;
  }

  module _ (n : ℕ) (size : (x : X) → length (f x) ≡ n) where
    pub length_is : (xs : List X) → length (flat_map f xs) ≡ n * length xs
    length_is [] = omega arith
    length_is (x ∷ xs) = length-append (f x) (flat_map f xs) ∙ omega (arith, size x, length_is xs)

    pub stands_item_of : (xs : List X) (k : ℕ) (d : X) → k < length xs → Stands (n * k) (f (get_or xs k d)) (flat_map f xs)
    stands_item_of xs k d lt = stands_at (length_is (take k xs) ∙ ap (λ (m : ℕ). n * m) (length-take-le k xs (omega arith))) (stands_item xs k d lt)

-- ---- items

pub map_below : {X : Type 0} (d : X) (f g : ℕ → X) (n : ℕ) → ((k : ℕ) → k < n → f k ≡ g k) → map f (below n) ≡ map g (below n)
map_below d f g n same = fill_by_all g (map f (below n)) n d (length-map-range_with_len f 0 n) (λ k lt. get_or-map-range_with_len f 0 n k k d lt (omega arith) ∙ same k lt)

-- the items of an area that was laid out item by item
pub items_are : {X : Type 0} (f : X → List ℕ) (n : ℕ) → 0 < n → ((x : X) → length (f x) ≡ n) → (xs : List X) (d : X) (area : Input) → area.rest ≡ flat_map f xs
    → items n area ≡ map (λ k. record { at = area.at + n * k; rest = f (get_or xs k d) }) (below (length xs))
items_are f n some size xs d area is =
    let whole : length area.rest ≡ n * length xs = ap length is ∙ length_is f n size xs in
    let count : length area.rest / n ≡ length xs = ap (λ (m : ℕ). m / n) whole ∙ mul-div_cancel_left (length xs) some in
    ap (λ (m : ℕ). map given (below m)) count ∙ map_below none given made (length xs) same
  where
    none : Input
    none = record { at = 0; rest = [] }

    given : ℕ → Input
    given k = record { at = area.at + n * k; rest = take n (drop (n * k) area.rest) }

    made : ℕ → Input
    made k = record { at = area.at + n * k; rest = f (get_or xs k d) }

    same : (k : ℕ) → k < length xs → given k ≡ made k
    same k lt =
        let there : take n (drop (n * k) area.rest) ≡ f (get_or xs k d) = ap (λ (w : List ℕ). take n (drop (n * k) w)) is ∙ taken (stands_item_of f n size xs k d lt) n (size (get_or xs k d)) in
        ap (λ (w : List ℕ). record { at = area.at + n * k; rest = w }) there

-- what a list of readings gives
pub each_is : {A B E : Type 0} (g : A → Result B E) (h : ℕ → A) (r : ℕ → B) (a n : ℕ) → ((k : ℕ) → k < n → g (h (a + k)) ≡ Ok (r (a + k))) → each g (map h (range_with_len a n)) ≡ Ok (map r (range_with_len a n))
each_is g h r a zero all = refl
each_is g h r a (suc n) all =
    let here : g (h a) ≡ Ok (r a) = subst (λ (j : ℕ). g (h j) ≡ Ok (r j)) (let e : a + 0 ≡ a = omega arith in e) (all 0 (omega arith)) in
    let rest = each_is g h r (a + 1) n (λ k lt. subst (λ (j : ℕ). g (h j) ≡ Ok (r j)) (let e : a + suc k ≡ a + 1 + k = omega arith in e) (all (suc k) (omega arith))) in
    rw (here, rest) refl

module _ {A B E : Type 0} (g : A → Result B E) (h : ℕ → A) (r : ℕ → B) (n : ℕ) where
  pub each_below : ((k : ℕ) → k < n → g (h k) ≡ Ok (r k)) → each g (map h (below n)) ≡ Ok (map r (below n))
  each_below all = each_is g h r 0 n (λ k lt. subst (λ (j : ℕ). g (h j) ≡ Ok (r j)) (let e : k ≡ 0 + k = omega arith in e) (all k lt))

-- a list by its places
pub by_places : {X Y : Type 0} (f : X → Y) (xs : List X) (d : X) → map (λ k. f (get_or xs k d)) (below (length xs)) ≡ map f xs
by_places f xs d = sym (fill_by_all (λ k. f (get_or xs k d)) (map f xs) (length xs) (f d) (length-map xs f) (λ k lt. get_or-map f xs k d (f d) lt))

-- Items without repetitions, in the order of their first uses.
use Rattle.std.proofs.Common.{◌≡◌, ℕ, ◌+◌, Bool, true, false, not, cond, ltb, List, [], ◌∷◌, ◌++◌, length, position, unwrap_or, refl, sym, ap, ◌∙◌}
use mathlib.Core.Bool.{◌||◌, true≢false}
use Rattle.std.specs.Prelude.{filter, bytes_eq}
use Rattle.std.specs.List.{list_any, position_or_len}
use Rattle.std.proofs.lemmas.List.{append_assoc, append-nil}
use Rattle.std.proofs.lemmas.List.Elements.{filter-append}
use Rattle.std.proofs.lemmas.Cmp.{nat_list_eq_equiv}
use Rattle.std.proofs.lemmas.Bool.{or_right, or_parts}
use Rattle.query_engine.proofs.TextOrder.{same_from_eq, eq_from_same}
use Rattle.index_model.specs.Ordered.{distinct, place_of}
use Rattle.gdbindex_write.proofs.PositionLaws.{is_some_position}

-- ---- one item more

-- whether an item stands among others
abbrev pub is_in : List ℕ → List (List ℕ) → Bool
is_in y xs = list_any (bytes_eq y) xs

abbrev others : List ℕ → List (List ℕ) → List (List ℕ)
others x xs = filter (λ y. not (bytes_eq x y)) xs

in_others : (x y : List ℕ) (xs : List (List ℕ)) → bytes_eq y x ≡ false → is_in y (others x xs) ≡ is_in y xs
in_others x y [] e = refl
in_others x y (z ∷ zs) e = by (bytes_eq x z) refl (in_others x y zs e)
  where
    by : (b : Bool) → bytes_eq x z ≡ b → is_in y (others x zs) ≡ is_in y zs → is_in y (others x (z ∷ zs)) ≡ is_in y (z ∷ zs)
    by true f rest =
        let other : bytes_eq y z ≡ false = ap (bytes_eq y) (sym (same_from_eq x z f)) ∙ e in
        rw (f, other) rest
    by false f rest = rw f (ap (λ b. bytes_eq y z || b) rest)

-- without repetitions they are the same items
pub in_distinct : (y : List ℕ) (xs : List (List ℕ)) → is_in y (distinct bytes_eq xs) ≡ is_in y xs
unfolding distinct
in_distinct y [] = refl
in_distinct y (x ∷ xs) = by (bytes_eq y x) refl (in_distinct y xs)
  where
    by : (b : Bool) → bytes_eq y x ≡ b → is_in y (distinct bytes_eq xs) ≡ is_in y xs → (bytes_eq y x || is_in y (others x (distinct bytes_eq xs))) ≡ (bytes_eq y x || is_in y xs)
    by true e rest = rw e refl
    by false e rest = rw e (in_others x y (distinct bytes_eq xs) e ∙ rest)

-- an item in front of what has one more
push_behind : (x y : List ℕ) (b : Bool) (ds es : List (List ℕ)) → es ≡ cond b ds (ds ++ y ∷ []) → x ∷ others x es ≡ cond (bytes_eq y x || b) (x ∷ others x ds) (x ∷ others x ds ++ y ∷ [])
push_behind x y true ds es e = rw e (there (bytes_eq y x))
  where
    there : (b : Bool) → x ∷ others x ds ≡ cond (b || true) (x ∷ others x ds) (x ∷ others x ds ++ y ∷ [])
    there true = refl
    there false = refl
push_behind x y false ds es e = rw e (by (bytes_eq y x) refl)
  where
    by : (b : Bool) → bytes_eq y x ≡ b → x ∷ others x (ds ++ y ∷ []) ≡ cond (b || false) (x ∷ others x ds) (x ∷ others x ds ++ y ∷ [])
    by true f = let g : bytes_eq x y ≡ true = nat_list_eq_equiv.symm x y ∙ f in rw (filter-append (λ z. not (bytes_eq x z)) ds (y ∷ []), g) (ap (λ w. x ∷ w) (append-nil (others x ds)))
    by false f = let g : bytes_eq x y ≡ false = nat_list_eq_equiv.symm x y ∙ f in rw (filter-append (λ z. not (bytes_eq x z)) ds (y ∷ []), g) refl

pub distinct_push : (xs : List (List ℕ)) (y : List ℕ) → distinct bytes_eq (xs ++ y ∷ []) ≡ cond (is_in y xs) (distinct bytes_eq xs) (distinct bytes_eq xs ++ y ∷ [])
unfolding distinct
distinct_push [] y = refl
distinct_push (x ∷ xs) y = push_behind x y (is_in y xs) (distinct bytes_eq xs) (distinct bytes_eq (xs ++ y ∷ [])) (distinct_push xs y)

-- ---- what came first stays in front

pub record Begins (front all : List (List ℕ)) : Type 0 where
  pub rest : List (List ℕ)
  pub is : all ≡ front ++ rest

pub distinct_begins : (xs ys : List (List ℕ)) → Begins (distinct bytes_eq xs) (distinct bytes_eq (xs ++ ys))
distinct_begins xs [] = record { rest = []; is = ap (distinct bytes_eq) (append-nil xs) ∙ sym (append-nil (distinct bytes_eq xs)) }
distinct_begins xs (y ∷ ys) = by (is_in y xs) refl (distinct_begins (xs ++ y ∷ []) ys)
  where
    more : xs ++ y ∷ ys ≡ (xs ++ y ∷ []) ++ ys
    more = sym (append_assoc xs (y ∷ []) ys)

    by : (b : Bool) → is_in y xs ≡ b → Begins (distinct bytes_eq (xs ++ y ∷ [])) (distinct bytes_eq ((xs ++ y ∷ []) ++ ys)) → Begins (distinct bytes_eq xs) (distinct bytes_eq (xs ++ y ∷ ys))
    by true e next =
        let front : distinct bytes_eq (xs ++ y ∷ []) ≡ distinct bytes_eq xs = distinct_push xs y ∙ ap (λ b. cond b (distinct bytes_eq xs) (distinct bytes_eq xs ++ y ∷ [])) e in
        record { rest = next.rest; is = ap (distinct bytes_eq) more ∙ next.is ∙ ap (λ w. w ++ next.rest) front }
    by false e next =
        let front : distinct bytes_eq (xs ++ y ∷ []) ≡ distinct bytes_eq xs ++ y ∷ [] = distinct_push xs y ∙ ap (λ b. cond b (distinct bytes_eq xs) (distinct bytes_eq xs ++ y ∷ [])) e in
        record { rest = y ∷ next.rest; is = ap (distinct bytes_eq) more ∙ next.is ∙ ap (λ w. w ++ next.rest) front ∙ append_assoc (distinct bytes_eq xs) (y ∷ []) next.rest }

-- ---- places

module _ (p : List ℕ → Bool) where
  pub place_in_front : (xs ys : List (List ℕ)) → list_any p xs ≡ true → position_or_len p (xs ++ ys) ≡ position_or_len p xs
  place_in_front [] ys some = absurd (true≢false (sym some))
  place_in_front (x ∷ xs) ys some = by (p x) refl (place_in_front xs ys)
    where
      by : (b : Bool) → p x ≡ b → (list_any p xs ≡ true → position_or_len p (xs ++ ys) ≡ position_or_len p xs) → position_or_len p (x ∷ xs ++ ys) ≡ position_or_len p (x ∷ xs)
      by true e rest = rw e refl
      by false e rest = let more : list_any p xs ≡ true = rw e at some in rw e (ap (λ n. 1 + n) (rest more))

  pub place_is : (xs : List (List ℕ)) → list_any p xs ≡ true → unwrap_or (position p xs) 0 ≡ position_or_len p xs
  place_is xs some = by (ltb (position_or_len p xs) (length xs)) refl
    where
      by : (b : Bool) → ltb (position_or_len p xs) (length xs) ≡ b → unwrap_or (position p xs) 0 ≡ position_or_len p xs
      by true e = rw e refl
      by false e = absurd (true≢false (sym some ∙ sym (is_some_position p xs) ∙ rw e refl))

itself : (y : List ℕ) → bytes_eq y y ≡ true
itself y = eq_from_same y y refl

is_last : (xs : List (List ℕ)) (y : List ℕ) → is_in y (xs ++ y ∷ []) ≡ true
is_last [] y = rw (itself y) refl
is_last (x ∷ xs) y = or_right (bytes_eq y x) (is_in y (xs ++ y ∷ [])) (is_last xs y)

-- the place that an item gets is the one that it has then
pub insert_place : (xs : List (List ℕ)) (y : List ℕ) → position_or_len (bytes_eq y) xs ≡ position_or_len (bytes_eq y) (cond (is_in y xs) xs (xs ++ y ∷ []))
insert_place xs y = by (is_in y xs) refl
  where
    last : (zs : List (List ℕ)) → is_in y zs ≡ false → position_or_len (bytes_eq y) zs ≡ position_or_len (bytes_eq y) (zs ++ y ∷ [])
    last [] none = rw (itself y) refl
    last (z ∷ zs) none =
        let first : bytes_eq y z ≡ false = (or_parts (bytes_eq y z) (is_in y zs) none).0 in
        let rest : is_in y zs ≡ false = (or_parts (bytes_eq y z) (is_in y zs) none).1 in
        rw first (ap (λ n. 1 + n) (last zs rest))

    by : (b : Bool) → is_in y xs ≡ b → position_or_len (bytes_eq y) xs ≡ position_or_len (bytes_eq y) (cond b xs (xs ++ y ∷ []))
    by true e = refl
    by false e = last xs e

-- the place that an item has once it came is its place among all
pub place_stays : (xs ys : List (List ℕ)) (y : List ℕ) → position_or_len (bytes_eq y) (cond (is_in y (distinct bytes_eq xs)) (distinct bytes_eq xs) (distinct bytes_eq xs ++ y ∷ [])) ≡ place_of bytes_eq y (distinct bytes_eq (xs ++ y ∷ ys))
place_stays xs ys y =
    let b = distinct_begins (xs ++ y ∷ []) ys in
    let some : is_in y (distinct bytes_eq (xs ++ y ∷ [])) ≡ true = in_distinct y (xs ++ y ∷ []) ∙ is_last xs y in
    let all : distinct bytes_eq (xs ++ y ∷ ys) ≡ distinct bytes_eq (xs ++ y ∷ []) ++ b.rest = ap (distinct bytes_eq) (sym (append_assoc xs (y ∷ []) ys)) ∙ b.is in
    let some_all : is_in y (distinct bytes_eq (xs ++ y ∷ ys)) ≡ true = in_distinct y (xs ++ y ∷ ys) ∙ in_all xs in
    let front : cond (is_in y (distinct bytes_eq xs)) (distinct bytes_eq xs) (distinct bytes_eq xs ++ y ∷ []) ≡ distinct bytes_eq (xs ++ y ∷ []) = ap (λ b. cond b (distinct bytes_eq xs) (distinct bytes_eq xs ++ y ∷ [])) (in_distinct y xs) ∙ sym (distinct_push xs y) in
    ap (position_or_len (bytes_eq y)) front ∙ sym (place_in_front (bytes_eq y) (distinct bytes_eq (xs ++ y ∷ [])) b.rest some) ∙ ap (position_or_len (bytes_eq y)) (sym all) ∙ sym (place_is (bytes_eq y) (distinct bytes_eq (xs ++ y ∷ ys)) some_all)
  where
    in_all : (xs : List (List ℕ)) → is_in y (xs ++ y ∷ ys) ≡ true
    in_all [] = rw (itself y) refl
    in_all (x ∷ xs) = or_right (bytes_eq y x) (is_in y (xs ++ y ∷ ys)) (in_all xs)

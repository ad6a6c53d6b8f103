-- Ascending lists of distinct items, and the places of their items.
use Rattle.std.proofs.Common.{◌≡◌, ℕ, suc, ◌+◌, ◌<◌, Bool, true, false, cond, List, [], ◌∷◌, length, get_or, Some, None, refl, sym, ap, ◌∙◌, subst, arith, ⊎_elim}
use Rattle.std.specs.Prelude.{Contains, unwrap_or}
use Rattle.std.specs.List.{position_or_len}
use mathlib.Core.Bool.{true≢false}
use Rattle.std.proofs.lemmas.Bool.{lt-ltb}
use Rattle.common_laws.proofs.Members.{contains_here, contains_later, contains_cases}
use Rattle.index_model.specs.Ordered.{with_item, ascending, place_of}
use Rattle.index_model.specs.Order.{Rises}
use Rattle.index_model.proofs.Pairs.{Pairs}
use Rattle.index_model.proofs.Orders.{IsOrder, ascending_rises, ascending_only}

-- ---- ascending lists

module _ {A : Type 0} (less : A → A → Bool) (o : IsOrder less) where
  -- the first is below the second
  abbrev pub Below : A → A → Type 0
  Below x y = less x y ≡ true

  in_pairs : (xs : List A) → Rises less xs → Pairs Below xs
  in_pairs [] r = tt
  in_pairs (x ∷ xs) r = (r.0, in_pairs xs r.1)

  pub ascending_pairs : (xs : List A) → Pairs Below (ascending less xs)
  ascending_pairs xs = in_pairs (ascending less xs) (ascending_rises less o xs)

  -- an item that isn't there adds one
  with_size : (x : A) (ys : List A) → (Contains ys x → ⊥) → length (with_item less x ys) ≡ suc (length ys)
  unfolding with_item
  with_size x [] other = refl
  with_size x (y ∷ ys) other = by (less x y) refl (less y x) refl (with_size x ys (λ l. other (contains_later y ys x l)))
    where
      by : (b : Bool) → less x y ≡ b → (c : Bool) → less y x ≡ c → length (with_item less x ys) ≡ suc (length ys) → length (with_item less x (y ∷ ys)) ≡ suc (suc (length ys))
      by true e c f rest = rw e refl
      by false e true f rest = rw (e, f) (ap (λ (n : ℕ). suc n) rest)
      by false e false f rest = absurd (other (subst (Contains (y ∷ ys)) (sym (o.apart x y e f)) (contains_here y ys)))

  -- distinct items are all kept
  pub ascending_size : (xs : List A) → Pairs (λ x y. x ≡ y → ⊥) xs → length (ascending less xs) ≡ length xs
  unfolding ascending
  ascending_size [] apart = refl
  ascending_size (x ∷ xs) apart = with_size x (ascending less xs) (λ c. apart.0 x (ascending_only less o xs x c) refl) ∙ ap (λ (n : ℕ). suc n) (ascending_size xs apart.1)

-- ---- places

-- an item at a place
pub record StandsAt {A : Type 0} (xs : List A) (k : ℕ) (x : A) : Type 0 where
  pub within : k < length xs
  pub is : get_or xs k x ≡ x

module _ {A : Type 0} (same : A → A → Bool) (decides : (x y : A) → same x y ≡ true → x ≡ y) (itself : (x : A) → same x x ≡ true) where
  first_place : (x : A) (xs : List A) → Contains xs x → StandsAt xs (position_or_len (same x) xs) x
  first_place x [] c = absurd (omega (arith, c.1))
  first_place x (y ∷ ys) c = by (same x y) refl (λ l. first_place x ys l)
    where
      by : (b : Bool) → same x y ≡ b → (Contains ys x → StandsAt ys (position_or_len (same x) ys) x) → StandsAt (y ∷ ys) (position_or_len (same x) (y ∷ ys)) x
      by true e more = rw e (record { within = omega arith; is = sym (decides x y e) })
      by false e more =
          let later : Contains ys x = ⊎_elim (λ (g : y ≡ x). absurd (true≢false (sym (itself x) ∙ ap (same x) (sym g) ∙ e))) (λ (l : Contains ys x). l) (contains_cases y ys x c) in
          let r = more later in
          let n : ℕ = position_or_len (same x) ys in
          let next : 1 + n ≡ suc n = omega arith in
          rw e (record { within = omega (arith, r.within); is = ap (λ (k : ℕ). get_or (y ∷ ys) k x) next ∙ r.is })

  -- the place of an item that stands in the list
  pub place_stands : (x : A) (xs : List A) → Contains xs x → StandsAt xs (place_of same x xs) x
  place_stands x xs c =
      let r = first_place x xs c in
      let n : ℕ = position_or_len (same x) xs in
      let at : place_of same x xs ≡ n = ap (λ (b : Bool). unwrap_or (cond b (Some n) None) 0) (lt-ltb n (length xs) r.within) in
      subst (λ (k : ℕ). StandsAt xs k x) (sym at) r

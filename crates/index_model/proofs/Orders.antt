-- Strict orders, lists that rise, and the distinct items of a list in their order.
use Rattle.std.proofs.Common.{◌≡◌, ℕ, zero, suc, ◌<◌, Bool, true, false, eqb, ltb, List, [], ◌∷◌, length, get_or, refl, sym, ◌∙◌, subst, inl, inr, arith, ⊎_elim}
use Rattle.std.specs.Prelude.{Contains, nat_lt}
use mathlib.Core.Logic.{◌⊎◌}
use mathlib.Core.Bool.{◌&&◌, ◌||◌}
use Rattle.std.proofs.lemmas.Bool.Decides.{nat_tests}
use Rattle.std.proofs.lemmas.Bool.{ltb-true, ltb-false, lt-ltb}
use Rattle.common_laws.proofs.Members.{contains_here, contains_later, contains_cases}
use Rattle.index_model.specs.Ordered.{with_item, ascending, bytes_lt}
use Rattle.index_model.specs.Order.{Rises, Adds}

-- ---- orders

-- a strict order in which two items that aren't first_or_same one another are the same
pub record IsOrder {A : Type 0} (less : A → A → Bool) : Type 0 where
  pub itself : (x : A) → less x x ≡ true → ⊥
  pub trans : (x y z : A) → less x y ≡ true → less y z ≡ true → less x z ≡ true
  pub apart : (x y : A) → less x y ≡ false → less y x ≡ false → x ≡ y

-- by the first numbers, and where they are the same by what follows
abbrev pub first_then : ℕ → ℕ → Bool → Bool
first_then x y b = ltb x y || (eqb x y && b)

pub first_or_same : (x y : ℕ) (b : Bool) → first_then x y b ≡ true → (x < y) ⊎ ((x ≡ y) × (b ≡ true))
first_or_same x y b e = grind (arith, nat_tests)

first_below : (x y : ℕ) (b : Bool) → x < y → first_then x y b ≡ true
first_below x y b lt = grind (arith, nat_tests)

same_below : (x y : ℕ) (b : Bool) → x ≡ y → b ≡ true → first_then x y b ≡ true
same_below x y b e f = grind (arith, nat_tests)

neither : (x y : ℕ) (b c : Bool) → first_then x y b ≡ false → first_then y x c ≡ false → (x ≡ y) × (b ≡ false) × (c ≡ false)
neither x y b c e f = grind (arith, nat_tests)

bytes_itself : (xs : List ℕ) → bytes_lt xs xs ≡ true → ⊥
unfolding bytes_lt
bytes_itself [] e = absurd cc
bytes_itself (x ∷ xs) e = ⊎_elim (λ (lt : x < x). absurd (omega (arith, lt))) (λ (s : (x ≡ x) × (bytes_lt xs xs ≡ true)). bytes_itself xs s.1) (first_or_same x x (bytes_lt xs xs) e)

bytes_trans : (xs ys zs : List ℕ) → bytes_lt xs ys ≡ true → bytes_lt ys zs ≡ true → bytes_lt xs zs ≡ true
unfolding bytes_lt
bytes_trans xs [] zs e f = absurd cc
bytes_trans xs (y ∷ ys) [] e f = absurd cc
bytes_trans [] (y ∷ ys) (z ∷ zs) e f = refl
bytes_trans (x ∷ xs) (y ∷ ys) (z ∷ zs) e f = ⊎_elim
    (λ (lt : x < y). ⊎_elim
    (λ (lt2 : y < z). first_below x z (bytes_lt xs zs) (omega (arith, lt, lt2)))
    (λ (s : (y ≡ z) × (bytes_lt ys zs ≡ true)). first_below x z (bytes_lt xs zs) (omega (arith, lt, s.0)))
    (first_or_same y z (bytes_lt ys zs) f))
    (λ (r : (x ≡ y) × (bytes_lt xs ys ≡ true)). ⊎_elim
    (λ (lt2 : y < z). first_below x z (bytes_lt xs zs) (omega (arith, r.0, lt2)))
    (λ (s : (y ≡ z) × (bytes_lt ys zs ≡ true)). same_below x z (bytes_lt xs zs) (r.0 ∙ s.0) (bytes_trans xs ys zs r.1 s.1))
    (first_or_same y z (bytes_lt ys zs) f))
    (first_or_same x y (bytes_lt xs ys) e)

bytes_apart : (xs ys : List ℕ) → bytes_lt xs ys ≡ false → bytes_lt ys xs ≡ false → xs ≡ ys
unfolding bytes_lt
bytes_apart [] [] e f = refl
bytes_apart [] (y ∷ ys) e f = absurd cc
bytes_apart (x ∷ xs) [] e f = absurd cc
bytes_apart (x ∷ xs) (y ∷ ys) e f =
    let n = neither x y (bytes_lt xs ys) (bytes_lt ys xs) e f in
    let rest : xs ≡ ys = bytes_apart xs ys n.1 n.2 in
    λ i. n.0 i ∷ rest i

pub bytes_order : IsOrder bytes_lt
bytes_order = record { itself = bytes_itself; trans = bytes_trans; apart = bytes_apart }

pub nat_order : IsOrder nat_lt
nat_order = record {
  itself = λ x e. absurd (omega (arith, ltb-true x x e));
  trans = λ x y z e f. lt-ltb x z (omega (arith, ltb-true x y e, ltb-true y z f));
  apart = λ x y e f. omega (arith, ltb-false x y e, ltb-false y x f);
}

-- an order by bytes that tell the items apart
module _ {A : Type 0} (less : A → A → Bool) (key : A → List ℕ) (one : (x y : A) → key x ≡ key y → x ≡ y) (by_key : (x y : A) → less x y ≡ bytes_lt (key x) (key y)) where
  pub order_by : IsOrder less
  order_by = record {
    itself = λ x e. bytes_itself (key x) (sym (by_key x x) ∙ e);
    trans = λ x y z e f. by_key x z ∙ bytes_trans (key x) (key y) (key z) (sym (by_key x y) ∙ e) (sym (by_key y z) ∙ f);
    apart = λ x y e f. one x y (bytes_apart (key x) (key y) (sym (by_key x y) ∙ e) (sym (by_key y x) ∙ f));
  }

-- ---- lists that rise

module _ {A : Type 0} (less : A → A → Bool) where
  pub rises_from_pairs : (xs : List A) → ((i j : ℕ) (d : A) → i < j → j < length xs → less (get_or xs i d) (get_or xs j d) ≡ true) → Rises less xs
  rises_from_pairs [] h = tt
  rises_from_pairs (x ∷ xs) h =
      (λ y c. subst (λ (w : A). less x w ≡ true) c.2 (h 0 (suc c.0) y (omega arith) (omega (arith, c.1))), rises_from_pairs xs (λ i j d lt to. h (suc i) (suc j) d (omega arith) (omega arith)))

  pub pairs_from_rises : (xs : List A) → Rises less xs → (i j : ℕ) (d : A) → i < j → j < length xs → less (get_or xs i d) (get_or xs j d) ≡ true
  pairs_from_rises [] r i j d lt to = absurd (omega arith)
  pairs_from_rises (x ∷ xs) r i zero d lt to = absurd (omega arith)
  pairs_from_rises (x ∷ xs) r zero (suc j) d lt to = r.0 (get_or xs j d) (j, omega arith, same xs j (omega arith))
    where
      same : (xs : List A) (j : ℕ) → j < length xs → get_or xs j (get_or xs j d) ≡ get_or xs j d
      same [] j lt = refl
      same (x ∷ xs) zero lt = refl
      same (x ∷ xs) (suc j) lt = same xs j (omega arith)
  pairs_from_rises (x ∷ xs) r (suc i) (suc j) d lt to = pairs_from_rises xs r.1 i j d (omega arith) (omega arith)

  module _ (o : IsOrder less) where
    both_ways : (x y : A) → less x y ≡ true → less y x ≡ true → ⊥
    both_ways x y e f = o.itself x (o.trans x y x e f)

    same_heads : (x : A) (xs : List A) (y : A) (ys : List A) → Rises less (x ∷ xs) → Rises less (y ∷ ys) → Contains (y ∷ ys) x → Contains (x ∷ xs) y → x ≡ y
    same_heads x xs y ys r s cx cy = elim (contains_cases y ys x cx) [
      | inl e ↦ sym e
      | inr c ↦ elim (contains_cases x xs y cy) [
        | inl e ↦ e
        | inr d ↦ absurd (both_ways x y (r.0 y d) (s.0 x c))
      ]
    ]

    behind : (x : A) (xs : List A) (y : A) (ys : List A) → Rises less (x ∷ xs) → x ≡ y → ((z : A) → Contains (x ∷ xs) z → Contains (y ∷ ys) z) → (z : A) → Contains xs z → Contains ys z
    behind x xs y ys r e f z c = elim (contains_cases y ys z (f z (contains_later x xs z c))) [
      | inl g ↦ absurd (o.itself x (subst (λ (w : A). less x w ≡ true) (sym g ∙ sym e) (r.0 z c)))
      | inr d ↦ d
    ]

    -- lists that rise and have the same items are the same
    pub same_rises : (xs ys : List A) → Rises less xs → Rises less ys → ((z : A) → Contains xs z → Contains ys z) → ((z : A) → Contains ys z → Contains xs z) → xs ≡ ys
    same_rises [] [] r s f g = refl
    same_rises [] (y ∷ ys) r s f g = absurd (let c = g y (contains_here y ys) in omega (arith, c.1))
    same_rises (x ∷ xs) [] r s f g = absurd (let c = f x (contains_here x xs) in omega (arith, c.1))
    same_rises (x ∷ xs) (y ∷ ys) r s f g =
        let first : x ≡ y = same_heads x xs y ys r s (f x (contains_here x xs)) (g y (contains_here y ys)) in
        let rest : xs ≡ ys = same_rises xs ys r.1 s.1 (behind x xs y ys r first f) (behind y ys x xs s (sym first) g) in
        λ i. first i ∷ rest i

    -- ---- an item at its place

    adds_end : (x y z : A) (zs : List A) → Contains (y ∷ zs) z → (y ≡ x) → Contains zs z ⊎ (x ≡ z)
    adds_end x y z zs c e = elim (contains_cases y zs z c) [ inl g ↦ inr (sym e ∙ g) | inr d ↦ inl d ]

    adds_behind : (x y : A) (ys zs : List A) → Adds x ys zs → Adds x (y ∷ ys) (y ∷ zs)
    adds_behind x y ys zs a = record {
      own = contains_later y zs x a.own;
      kept = λ z c. elim (contains_cases y ys z c) [
        | inl e ↦ subst (λ (w : A). Contains (y ∷ zs) w) e (contains_here y zs)
        | inr d ↦ contains_later y zs z (a.kept z d)
      ];
      only = λ z c. elim (contains_cases y zs z c) [
        | inl e ↦ inl (subst (λ (w : A). Contains (y ∷ ys) w) e (contains_here y ys))
        | inr d ↦ elim (a.only z d) [ inl f ↦ inl (contains_later y ys z f) | inr e ↦ inr e ]
      ];
    }

    pub with_adds : (x : A) (ys : List A) → Adds x ys (with_item less x ys)
    unfolding with_item
    with_adds x [] = record { own = contains_here x []; kept = λ z c. absurd (omega (arith, c.1)); only = λ z c. adds_end x x z [] c refl }
    with_adds x (y ∷ ys) = by (less x y) refl (less y x) refl (with_adds x ys)
      where
        by : (b : Bool) → less x y ≡ b → (c : Bool) → less y x ≡ c → Adds x ys (with_item less x ys) → Adds x (y ∷ ys) (with_item less x (y ∷ ys))
        by true e c f a = rw e (record { own = contains_here x (y ∷ ys); kept = λ z d. contains_later x (y ∷ ys) z d; only = λ z d. adds_end x x z (y ∷ ys) d refl })
        by false e true f a = rw (e, f) (adds_behind x y ys (with_item less x ys) a)
        by false e false f a =
            let same : y ≡ x = sym (o.apart x y e f) in
            rw (e, f) (record { own = subst (λ (w : A). Contains (y ∷ ys) w) same (contains_here y ys); kept = λ z d. d; only = λ z d. inl d })

    pub with_rises : (x : A) (ys : List A) → Rises less ys → Rises less (with_item less x ys)
    unfolding with_item
    with_rises x [] r = (λ y c. absurd (omega (arith, c.1)), tt)
    with_rises x (y ∷ ys) r = by (less x y) refl (less y x) refl (with_rises x ys r.1) (with_adds x ys)
      where
        by : (b : Bool) → less x y ≡ b → (c : Bool) → less y x ≡ c → Rises less (with_item less x ys) → Adds x ys (with_item less x ys) → Rises less (with_item less x (y ∷ ys))
        by true e c f rest a = rw e (
          λ z d. elim (contains_cases y ys z d) [
            | inl g ↦ subst (λ (w : A). less x w ≡ true) g e
            | inr h ↦ o.trans x y z e (r.0 z h)
          ],
          r,
        )
        by false e true f rest a = rw (e, f) (
          λ z d. elim (a.only z d) [
            | inl h ↦ r.0 z h
            | inr g ↦ subst (λ (w : A). less y w ≡ true) g f
          ],
          rest,
        )
        by false e false f rest a = rw (e, f) r

    -- ---- the distinct items, ascending

    pub ascending_rises : (xs : List A) → Rises less (ascending less xs)
    unfolding ascending
    ascending_rises [] = tt
    ascending_rises (x ∷ xs) = with_rises x (ascending less xs) (ascending_rises xs)

    pub ascending_has : (xs : List A) (z : A) → Contains xs z → Contains (ascending less xs) z
    unfolding ascending
    ascending_has [] z c = absurd (omega (arith, c.1))
    ascending_has (x ∷ xs) z c =
        let a = with_adds x (ascending less xs) in
        elim (contains_cases x xs z c) [
          | inl e ↦ subst (λ (w : A). Contains (with_item less x (ascending less xs)) w) e a.own
          | inr d ↦ a.kept z (ascending_has xs z d)
        ]

    pub ascending_only : (xs : List A) (z : A) → Contains (ascending less xs) z → Contains xs z
    unfolding ascending
    ascending_only [] z c = absurd (omega (arith, c.1))
    ascending_only (x ∷ xs) z c =
        elim ((with_adds x (ascending less xs)).only z c) [
          | inl d ↦ contains_later x xs z (ascending_only xs z d)
          | inr e ↦ subst (λ (w : A). Contains (x ∷ xs) w) e (contains_here x xs)
        ]

    -- a list that rises and has the items of another is its distinct items
    pub ascending_is : (xs ys : List A) → Rises less ys → ((z : A) → Contains xs z → Contains ys z) → ((z : A) → Contains ys z → Contains xs z) → ascending less xs ≡ ys
    ascending_is xs ys r f g = same_rises (ascending less xs) ys (ascending_rises xs) r (λ z c. f z (ascending_only xs z c)) (λ z c. ascending_has xs z (g z c))

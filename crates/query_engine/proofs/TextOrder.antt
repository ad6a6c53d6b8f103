-- The order of texts by their bytes, and filters by a text.
use Rattle.std.proofs.Common.{◌≡◌, ◌≢◌, ℕ, zero, suc, ◌+◌, ◌<◌, ◌≤◌, Bool, true, false, List, [], ◌∷◌, length, get_or, take, drop, refl, sym, ap, ◌∙◌, ◌⊎◌, inl, inr, arith}
use mathlib.Core.Bool.{not, ◌&&◌, true≢false}
use Rattle.std.specs.Prelude.{bytes_eq, filter}
use Rattle.std.specs.List.{list_any}
use Rattle.std.specs.Ordering.{nat_cmp, is_lt, is_eq, ordering_reverse}
use Rattle.std.specs.Cmp.Lexicographic.{slice_cmp}
use Rattle.std.specs.declared.cmp.Ordering.{Ordering}
use Rattle.std.specs.declared.cmp.Ordering.TheVariants.{Less, Equal, Greater}
use Rattle.std.proofs.lemmas.Bool.Decides.{nat_tests}
use Rattle.std.proofs.lemmas.Cmp.{nat_list_cmp_total, same_from_slice_cmp}
use Rattle.std.proofs.lemmas.Map.Text.{is_eq-slice_cmp}
use Rattle.std.proofs.lemmas.Slice.Eq.{bytes_eq-Decides}
use Rattle.index_model.specs.Ordered.{bytes_lt}
use Rattle.query_engine.specs.Pairs.{ComesBefore}

abbrev pub text_cmp : List ℕ → List ℕ → Ordering
text_cmp = slice_cmp nat_cmp

pub same_from_eq : (xs ys : List ℕ) → bytes_eq xs ys ≡ true → xs ≡ ys
same_from_eq xs ys = (bytes_eq-Decides xs ys).0

pub eq_from_same : (xs ys : List ℕ) → xs ≡ ys → bytes_eq xs ys ≡ true
eq_from_same xs ys = (bytes_eq-Decides xs ys).1

pub eq_from_other : (xs ys : List ℕ) → xs ≢ ys → bytes_eq xs ys ≡ false
eq_from_other xs ys other = by (bytes_eq xs ys) refl
  where
    by : (b : Bool) → bytes_eq xs ys ≡ b → bytes_eq xs ys ≡ false
    by true e = absurd (other (same_from_eq xs ys e))
    by false e = e

-- neither comes before the other exactly where they are the same
pub ties_are_same : (xs ys : List ℕ) → not (is_lt (text_cmp xs ys)) && not (is_lt (text_cmp ys xs)) ≡ bytes_eq ys xs
ties_are_same xs ys = rw (nat_list_cmp_total.antisymm xs ys, ← is_eq-slice_cmp ys xs) (by (text_cmp ys xs))
  where
    by : (o : Ordering) → not (is_lt (ordering_reverse o)) && not (is_lt o) ≡ is_eq o
    by Less = refl
    by Equal = refl
    by Greater = refl

pub equal_is_same : (xs ys : List ℕ) → text_cmp xs ys ≡ Equal → xs ≡ ys
equal_is_same xs ys e = same_from_eq xs ys (sym (is_eq-slice_cmp xs ys) ∙ ap is_eq e)

pub before_flip : (xs ys : List ℕ) → text_cmp xs ys ≡ Greater → ComesBefore ys xs
before_flip xs ys e = nat_list_cmp_total.antisymm ys xs ∙ ap ordering_reverse e

pub before_itself : (xs : List ℕ) → ComesBefore xs xs → ⊥
before_itself xs e = let g : text_cmp xs xs ≡ Greater = nat_list_cmp_total.antisymm xs xs ∙ ap ordering_reverse e in let bad : Less ≡ Greater = sym e ∙ g in cc

pub before_trans : (xs ys zs : List ℕ) → ComesBefore xs ys → ComesBefore ys zs → ComesBefore xs zs
before_trans = nat_list_cmp_total.trans

-- what doesn't come behind comes before or is the same
pub before_or_same : (xs ys : List ℕ) → (ComesBefore ys xs → ⊥) → ComesBefore xs ys ⊎ (xs ≡ ys)
before_or_same xs ys not_behind = by (text_cmp xs ys) refl
  where
    by : (o : Ordering) → text_cmp xs ys ≡ o → ComesBefore xs ys ⊎ (xs ≡ ys)
    by Less e = inl e
    by Equal e = inr (equal_is_same xs ys e)
    by Greater e = absurd (not_behind (before_flip xs ys e))

-- ---- the order of bytes as the definitions have it

pub bytes_lt_is : (xs ys : List ℕ) → is_lt (text_cmp xs ys) ≡ bytes_lt xs ys
unfolding bytes_lt
bytes_lt_is xs ys = same_from_slice_cmp nat_cmp is_lt bytes_lt refl (λ _ _. refl) (λ _ _. refl) (λ x y xs ys o h. grind (arith, nat_tests)) xs ys _ refl

less_from_lt : (o : Ordering) → is_lt o ≡ true → o ≡ Less
less_from_lt Less e = refl
less_from_lt Equal e = absurd (true≢false (sym e))
less_from_lt Greater e = absurd (true≢false (sym e))

pub before_from_lt : (xs ys : List ℕ) → bytes_lt xs ys ≡ true → ComesBefore xs ys
before_from_lt xs ys e = less_from_lt (text_cmp xs ys) (bytes_lt_is xs ys ∙ e)

pub lt_from_before : (xs ys : List ℕ) → ComesBefore xs ys → bytes_lt xs ys ≡ true
lt_from_before xs ys e = sym (bytes_lt_is xs ys) ∙ ap is_lt e

-- ---- filters

module _ {X : Type 0} (p : X → Bool) where
  pub filter_none : (xs : List X) → list_any p xs ≡ false → filter p xs ≡ []
  filter_none [] none = refl
  filter_none (x ∷ xs) none = by (p x) refl (filter_none xs)
    where
      by : (b : Bool) → p x ≡ b → (list_any p xs ≡ false → filter p xs ≡ []) → filter p (x ∷ xs) ≡ []
      by true e rest = absurd (true≢false (let h = rw e at none in h))
      by false e rest = rw e (rest (let h = rw e at none in h))

  pub some_passes : (xs : List X) → list_any p xs ≡ true → (k : ℕ) × (k < length xs) × ((d : X) → p (get_or xs k d) ≡ true)
  some_passes [] some = absurd (true≢false (sym some))
  some_passes (x ∷ xs) some = by (p x) refl (some_passes xs)
    where
      by : (b : Bool) → p x ≡ b → (list_any p xs ≡ true → (k : ℕ) × (k < length xs) × ((d : X) → p (get_or xs k d) ≡ true)) → (k : ℕ) × (k < length (x ∷ xs)) × ((d : X) → p (get_or (x ∷ xs) k d) ≡ true)
      by true e rest = (0, omega arith, λ d. e)
      by false e rest = let r = rest (let h = rw e at some in h) in (suc r.0, omega (arith, r.1), r.2)

  pub filter_each : (xs : List X) (d : X) → ((k : ℕ) → k < length xs → p (get_or xs k d) ≡ false) → filter p xs ≡ []
  filter_each [] d none = refl
  filter_each (x ∷ xs) d none = let h : p x ≡ false = none 0 (omega arith) in rw h (filter_each xs d (λ k lt. none (suc k) (omega arith)))

  -- what passes stands in one piece
  pub filter_piece : (xs : List X) (d : X) (a n : ℕ) → a + n ≤ length xs
      → ((k : ℕ) → k < a → p (get_or xs k d) ≡ false)
      → ((k : ℕ) → a ≤ k → k < a + n → p (get_or xs k d) ≡ true)
      → ((k : ℕ) → a + n ≤ k → k < length xs → p (get_or xs k d) ≡ false)
      → filter p xs ≡ take n (drop a xs)
  filter_piece xs d zero zero within before inside behind = filter_each xs d (λ k lt. behind k (omega arith) lt)
  filter_piece [] d zero (suc n) within before inside behind = absurd (omega arith)
  filter_piece (x ∷ xs) d zero (suc n) within before inside behind =
      let h : p x ≡ true = inside 0 (omega arith) (omega arith) in
      let rest : filter p xs ≡ take n xs = filter_piece xs d zero n (omega arith) (λ k lt. absurd (omega arith)) (λ k from to. inside (suc k) (omega arith) (omega arith)) (λ k from to. behind (suc k) (omega arith) (omega arith)) in
      rw h (ap (λ w. x ∷ w) rest)
  filter_piece [] d (suc a) n within before inside behind = absurd (omega arith)
  filter_piece (x ∷ xs) d (suc a) n within before inside behind =
      let h : p x ≡ false = before 0 (omega arith) in
      rw h (filter_piece xs d a n (omega arith) (λ k lt. before (suc k) (omega arith)) (λ k from to. inside (suc k) (omega arith) (omega arith)) (λ k from to. behind (suc k) (omega arith) (omega arith)))

-- The first place at which a test passes.
use Rattle.std.proofs.Common.{◌≡◌, ℕ, suc, ◌+◌, ◌<◌, Bool, true, false, not, cond, ltb, List, [], ◌∷◌, ◌++◌, length, get_or, take, position, Option, Some, None, unwrap_or, refl, sym, ap, ◌∙◌, subst, arith}
use mathlib.Core.Bool.{true≢false}
use Rattle.std.specs.Prelude.{bytes_eq, Contains}
use Rattle.std.specs.List.{list_any, list_all, position_or_len}
use Rattle.std.proofs.lemmas.Bool.{ltb-true}
use Rattle.std.proofs.lemmas.Option.{cond_some}
use Rattle.std.proofs.lemmas.List.{take_at, append_assoc, length-append}
use Rattle.std.specs.Prelude.{◌==◌}
use Rattle.std.proofs.lemmas.List.Folds.{list_any_at}
use Rattle.std.proofs.lemmas.List.Sums.{passes_at_first}
use Rattle.std.proofs.lemmas.Slice.Eq.{bytes_eq-Decides}
use Rattle.common_laws.proofs.Lists.{position_within}
use Rattle.ix_base.specs.Reading.{before_zero, ◌>>=◌ as ◌>>=?◌}
use Rattle.index_model.specs.Layout.{ended}
use Rattle.index_model.specs.Ordered.{place_of}
use Rattle.index_alike.proofs.GdbSteps.{is_lt}

module _ {X : Type 0} (p : X → Bool) where
  pub position_below : (xs : List X) (k : ℕ) → position p xs ≡ Some k → k < length xs
  position_below xs k e =
      let h = cond_some (ltb (position_or_len p xs) (length xs)) (position_or_len p xs) k e in
      omega (arith, ltb-true (position_or_len p xs) (length xs) h.0, h.1)

  pub position_is : (xs : List X) → position_or_len p xs < length xs → position p xs ≡ Some (position_or_len p xs)
  position_is xs lt = ap (λ (b : Bool). cond b (Some (position_or_len p xs)) None) (is_lt (position_or_len p xs) (length xs) lt)

  -- behind items that don't pass
  pub first_behind : (xs : List X) (y : X) (ys : List X) → list_all (λ x. not (p x)) xs ≡ true → p y ≡ true → position_or_len p (xs ++ y ∷ ys) ≡ length xs
  first_behind [] y ys none is = ap (λ (b : Bool). cond (not b) (1 + position_or_len p ys) 0) is
  first_behind (x ∷ xs) y ys none is = by (p x) refl none (λ more. first_behind xs y ys more is)
    where
      by : (b : Bool) → p x ≡ b → list_all (λ x. not (p x)) (x ∷ xs) ≡ true → (list_all (λ x. not (p x)) xs ≡ true → position_or_len p (xs ++ y ∷ ys) ≡ length xs) → position_or_len p (x ∷ (xs ++ y ∷ ys)) ≡ suc (length xs)
      by true e all rest = let none : false ≡ true = rw e at all in absurd (true≢false (sym none))
      by false e all rest =
          let more : list_all (λ x. not (p x)) xs ≡ true = rw e at all in
          let size = rest more in
          rw e (omega (arith, size))

-- ---- texts

-- the text is the one at its place
pub record IsPlace (x : List ℕ) (xs : List (List ℕ)) (k : ℕ) : Type 0 where
  pub within : k < length xs
  pub there : get_or xs k [] ≡ x

pub place_in : (x : List ℕ) (xs : List (List ℕ)) → Contains xs x → IsPlace x xs (place_of bytes_eq x xs)
place_in x xs c =
    let same : bytes_eq x (get_or xs c.0 x) ≡ true = (bytes_eq-Decides x (get_or xs c.0 x)).1 (sym c.2) in
    let some : list_any (bytes_eq x) xs ≡ true = list_any_at (bytes_eq x) xs c.0 x c.1 same in
    let lt = position_within (bytes_eq x) xs some in
    let is : place_of bytes_eq x xs ≡ position_or_len (bytes_eq x) xs = ap (λ (o : Option ℕ). unwrap_or o 0) (position_is (bytes_eq x) xs lt) in
    let passes : bytes_eq x (get_or xs (position_or_len (bytes_eq x) xs) []) ≡ true = passes_at_first (bytes_eq x) xs [] lt in
    let found : x ≡ get_or xs (position_or_len (bytes_eq x) xs) [] = (bytes_eq-Decides x (get_or xs (position_or_len (bytes_eq x) xs) [])).0 passes in
    subst (IsPlace x xs) (sym is) (record { within = lt; there = sym found })

-- no byte of the text is zero
abbrev pub HasNoZero : List ℕ → Type 0
HasNoZero text = list_all (λ b. not (b == 0)) text ≡ true

-- a text is what stands before its zero
pub text_reads : (text behind : List ℕ) → HasNoZero text → before_zero (ended text ++ behind) ≡ Some text
text_reads text behind none =
    let bytes : List ℕ = text ++ 0 ∷ behind in
    let zero_at : ℕ → Bool = λ b. b == 0 in
    let all : ended text ++ behind ≡ bytes = simp append_assoc in
    let first : position_or_len zero_at bytes ≡ length text = first_behind zero_at text 0 behind none refl in
    let lt : position_or_len zero_at bytes < length bytes = omega (arith, first, length-append text (0 ∷ behind)) in
    ap before_zero all
    ∙ ap (λ (o : Option ℕ). o >>=? λ k. Some (take k bytes)) (position_is zero_at bytes lt ∙ ap Some first)
    ∙ ap Some (take_at text (0 ∷ behind) (length text) refl)

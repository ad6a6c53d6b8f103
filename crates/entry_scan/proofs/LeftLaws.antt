-- What is left of a walk, one token after the other.
use Rattle.std.proofs.Common.{◌≡◌, ℕ, zero, suc, ◌-◌, ◌<◌, ◌≤◌, true, false, cond, [], length, Option, Some, Result, Ok, Err, refl, sym, ap, ◌∙◌, arith, inl, inr}
use Rattle.std.proofs.lemmas.Bool.{cases_lt}
use Rattle.ix_base.specs.declared.fault.Fault.{Fault}
use Rattle.ix_base.specs.Reading.{Input}
use Rattle.index_model.specs.Walk.{Token, Levels, Walk, is_over, behind, with_token, tail_of}
use Rattle.index_model.specs.WalkLeft.{levels_after, left_from, left}

-- the tail by its fault
pub tail_by_fault : (i : Input) (o : Option Fault) → o ≡ (tail_of i).end → tail_of i ≡ record { tokens = []; end = o }
unfolding tail_of
tail_by_fault i o e = ap (λ (x : Option Fault). let made : Walk = record { tokens = []; end = x } in made) (sym e)

module _ (read : Levels → Input → Result (Token × Input) Fault) where
  over_at_end : (open_ : Levels) (i : Input) → length i.rest ≡ 0 → is_over open_ i ≡ true
  over_at_end open_ i e = rw e refl

  over_from : (n : ℕ) (open_ : Levels) (i : Input) → is_over open_ i ≡ true → left_from read n open_ i ≡ tail_of i
  unfolding left_from
  over_from zero open_ i e = refl
  over_from (suc n) open_ i e = rw e refl

  -- where the tree is over its tail is left
  pub left_over : (open_ : Levels) (i : Input) → is_over open_ i ≡ true → left read open_ i ≡ tail_of i
  left_over open_ i e = over_from (length i.rest) open_ i e

  module _ (advances : (open_ : Levels) (i : Input) (t : Token × Input) → read open_ i ≡ Ok t → length t.1.rest < length i.rest) where
    enough : (n m : ℕ) (open_ : Levels) (i : Input) → length i.rest ≤ n → length i.rest ≤ m → left_from read n open_ i ≡ left_from read m open_ i
    unfolding left_from
    enough zero m open_ i a b = sym (over_from m open_ i (over_at_end open_ i (omega arith)))
    enough (suc n) zero open_ i a b = over_from (suc n) open_ i (over_at_end open_ i (omega arith))
    enough (suc n) (suc m) open_ i a b =
        elim (read open_ i) as (λ r. read open_ i ≡ r → cond (is_over open_ i) (tail_of i) (behind r (λ t. left_from read n (levels_after open_ t.0) t.1)) ≡ cond (is_over open_ i) (tail_of i) (behind r (λ t. left_from read m (levels_after open_ t.0) t.1))) [
          | Err f ↦ λ g. refl
          | Ok t ↦ λ g. ap (λ (w : Walk). cond (is_over open_ i) (tail_of i) (with_token t.0 w)) (enough n m (levels_after open_ t.0) t.1 (omega (arith, advances open_ i t g)) (omega (arith, advances open_ i t g)))
        ] refl

    one_at_least : (open_ : Levels) (i : Input) → is_over open_ i ≡ false → 0 < length i.rest
    one_at_least open_ i e =
        elim (cases_lt 0 (length i.rest)) [
          | inl lt ↦ lt
          | inr le ↦ absurd (let g : is_over open_ i ≡ true = over_at_end open_ i (omega arith) in cc)
        ]

    -- a token, and what is left behind it
    pub left_token : (open_ : Levels) (i : Input) (t : Token × Input) → is_over open_ i ≡ false → read open_ i ≡ Ok t → left read open_ i ≡ with_token t.0 (left read (levels_after open_ t.0) t.1)
    unfolding left_from
    left_token open_ i t e g =
        let k : length i.rest ≡ suc (length i.rest - 1) = omega (arith, one_at_least open_ i e) in
        ap (λ (n : ℕ). left_from read n open_ i) k ∙ rw (e, g) (ap (with_token t.0) (enough (length i.rest - 1) (length t.1.rest) (levels_after open_ t.0) t.1 (omega (arith, advances open_ i t g)) (omega arith)))

    -- a fault is the end
    pub left_fault : (open_ : Levels) (i : Input) (f : Fault) → is_over open_ i ≡ false → read open_ i ≡ Err f → left read open_ i ≡ record { tokens = []; end = Some f }
    unfolding left_from
    left_fault open_ i f e g =
        let k : length i.rest ≡ suc (length i.rest - 1) = omega (arith, one_at_least open_ i e) in
        ap (λ (n : ℕ). left_from read n open_ i) k ∙ rw (e, g) refl

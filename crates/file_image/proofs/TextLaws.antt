-- Strings that are sound, since a zero is near.
use Rattle.std.proofs.Common.{◌≡◌, ℕ, zero, suc, ◌+◌, ◌-◌, ◌<◌, ◌≤◌, ◌==◌, Bool, true, false, not, cond, ltb, ltb-true, ltb-false, List, [], ◌∷◌, length, length-drop, take, drop, get_or, Ok, refl, ap, ◌∙◌, arith}
use Rattle.std.specs.List.{position_or_len}
use Rattle.std.proofs.lemmas.Bool.{lt-ltb, le-leb}
use Rattle.std.proofs.lemmas.List.{get_or-drop, length-take-le}
use Rattle.ix_base.specs.declared.limits.TheConstants.{MAX_STRING}
use Rattle.ix_base.specs.declared.code.TheConstants.{BAD_STRING}
use Rattle.ix_base.specs.Reading.{before_zero}
use Rattle.index_model.specs.Meaning.{◌>>=◌, some_or}
use Rattle.index_model.specs.Strings.{string_at, bounded}
use Rattle.file_image.specs.TextLimits.{tested, AreSound, IsZeroNear}

abbrev is_zero : ℕ → Bool
is_zero b = b == 0

-- the first zero isn't behind another
first_zero : (bs : List ℕ) (k : ℕ) → k < length bs → get_or bs k 0 ≡ 0 → position_or_len is_zero bs ≤ k
first_zero [] k lt e = absurd (omega arith)
first_zero (b ∷ bs) zero lt e = rw e (omega arith)
first_zero (b ∷ bs) (suc k) lt e = first_further (b == 0) (position_or_len is_zero bs) k (first_zero bs k (omega arith) e)
  where
    first_further : (c : Bool) (n k : ℕ) → n ≤ k → cond (not c) (1 + n) 0 ≤ suc k
    first_further true n k le = omega arith
    first_further false n k le = omega arith

-- a text within the limit
short : (s : List ℕ) → length s ≤ MAX_STRING → tested (bounded s) ≡ Ok tt
unfolding bounded
short s le = rw (le-leb (length s) MAX_STRING le) refl

-- a string with a zero near
ended : (rest : List ℕ) (n : ℕ) → position_or_len is_zero rest ≡ n → n < length rest → n ≤ MAX_STRING → tested (some_or (before_zero rest) BAD_STRING >>= bounded) ≡ Ok tt
ended rest n is lt le = rw (is, lt-ltb n (length rest) lt) (short (take n rest) (omega (arith, length-take-le n rest (omega arith))))

pub sound_at : (bytes : List ℕ) (at end_ : ℕ) → at ≤ end_ → end_ < length bytes → get_or bytes end_ 0 ≡ 0 → end_ ≤ at + MAX_STRING → tested (string_at bytes at) ≡ Ok tt
unfolding string_at
sound_at bytes at end_ behind within is near =
    let rest = drop at bytes in
    let there : end_ - at < length rest = omega (arith, length-drop at bytes) in
    let same : at + (end_ - at) ≡ end_ = omega arith in
    let here : get_or rest (end_ - at) 0 ≡ 0 = get_or-drop at bytes (end_ - at) 0 ∙ ap (λ (k : ℕ). get_or bytes k 0) same ∙ is in
    let first = first_zero rest (end_ - at) there here in
    ended rest (position_or_len is_zero rest) refl (omega arith) (omega arith)

-- each place up to a end_ near a limit
pub further : (bytes : List ℕ) (limit end_ : ℕ) → AreSound bytes limit → IsZeroNear bytes limit end_ → AreSound bytes (end_ + 1)
further bytes limit end_ sound z at lt = either (ltb at limit) refl
  where
    either : (b : Bool) → ltb at limit ≡ b → tested (string_at bytes at) ≡ Ok tt
    either true e = sound at (ltb-true _ _ e)
    either false e = let le = ltb-false _ _ e in sound_at bytes at end_ (omega arith) z.within z.is (omega (arith, le, z.near))

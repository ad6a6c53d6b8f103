-- The front of a list of ranges, and what is left of it.
use Rattle.std.proofs.Common.{◌≡◌, ℕ, ◌+◌, ◌-◌, suc, zero, ◌<◌, ◌≤◌, List, [], ◌∷◌, length, get_or, take, drop, refl, arith, ap, sym, ◌∙◌, length-drop, add-one}
use Rattle.std.proofs.Math.Seq.{take-length, drop-cons}
use Rattle.index_model.specs.declared.range.UnitRange.{UnitRange}

pub none_taken : (ps : List UnitRange) → take 0 ps ≡ []
none_taken [] = refl
none_taken (p ∷ ps) = refl

pub take_past : (ps : List UnitRange) (k : ℕ) → length ps ≤ k → take k ps ≡ ps
take_past [] zero le = refl
take_past [] (suc k) le = refl
take_past (p ∷ ps) zero le = absurd (omega (arith, le))
take_past (p ∷ ps) (suc k) le = ap (λ (xs : List UnitRange). p ∷ xs) (take_past ps k (omega (arith, le)))

pub drop_0 : (ps : List UnitRange) → drop 0 ps ≡ ps
drop_0 [] = refl
drop_0 (p ∷ ps) = refl

pub drop_past : (ps : List UnitRange) (k : ℕ) → length ps ≤ k → drop k ps ≡ []
drop_past [] zero le = refl
drop_past [] (suc k) le = refl
drop_past (p ∷ ps) zero le = absurd (omega (arith, le))
drop_past (p ∷ ps) (suc k) le = drop_past ps k (omega (arith, le))

pub drop_next : (ps : List UnitRange) (k : ℕ) (d : UnitRange) → k < length ps → drop k ps ≡ get_or ps k d ∷ drop (k + 1) ps
drop_next ps k d lt = rw (add-one k) (drop-cons ps k d lt)

-- what a slice up to the end has
pub drop_slice : (ps : List UnitRange) (k : ℕ) → take (length ps - k) (drop k ps) ≡ drop k ps
drop_slice ps k = ap (λ (n : ℕ). take n (drop k ps)) (sym (length-drop k ps)) ∙ take-length (drop k ps)

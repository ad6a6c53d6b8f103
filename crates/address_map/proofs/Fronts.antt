-- Pieces up to one of them, and from it on.
use Rattle.std.proofs.Common.{◌≡◌, ℕ, ◌+◌, suc, zero, ◌<◌, ◌≤◌, List, [], ◌∷◌, length, get_or, take, drop, refl, arith, ap, sym, ◌∙◌}
use Rattle.std.proofs.lemmas.List.{take_more}
use Rattle.index_model.specs.declared.range.UnitRange.{UnitRange}
use Rattle.index_model.specs.Ranges.{unit_at}
use Rattle.index_model.specs.Pieces.{AreApart}
use Rattle.index_model.proofs.PieceLaws.{behind_end, nothing, behind_first, none_below}
use Rattle.address_map.specs.Overlay.{EndsBy}
use Rattle.address_map.proofs.UnitAt.{cons_same, ends, ends_tail, later_low}
use Rattle.address_map.proofs.Adding.{pushed_same}

pub take_apart : (ps : List UnitRange) (k : ℕ) → AreApart ps → AreApart (take k ps)
take_apart [] zero apart = tt
take_apart [] (suc k) apart = tt
take_apart (p ∷ ps) zero apart = tt
take_apart (p ∷ []) (suc zero) apart = apart
take_apart (p ∷ []) (suc (suc k)) apart = apart
take_apart (p ∷ q ∷ qs) (suc zero) apart = apart.0
take_apart (p ∷ q ∷ qs) (suc (suc k)) apart = (apart.0, apart.1, apart.2, take_apart (q ∷ qs) (suc k) apart.3)

-- those in front end where the next begins, or before it
pub take_ends : (ps : List UnitRange) (k : ℕ) (d : UnitRange) → AreApart ps → k < length ps → EndsBy (get_or ps k d).range.low (take k ps)
take_ends [] k d apart lt = absurd (omega (arith, lt))
take_ends (p ∷ ps) zero d apart lt = λ a le. nothing a
take_ends (p ∷ ps) (suc k) d apart lt =
    let b = behind_first p ps apart in
    let low = later_low p ps k d apart (omega (arith, lt)) in
    λ a le. behind_end p (take k ps) a (omega (arith, low, le)) ∙ take_ends ps k d b.2 (omega (arith, lt)) a le

-- below where the next begins those in front are as good as all
pub take_same : (ps : List UnitRange) (k : ℕ) (d : UnitRange) (a : ℕ) → AreApart ps → (k < length ps → a < (get_or ps k d).range.low) → unit_at (take k ps) a ≡ unit_at ps a
take_same [] zero d a apart lt = refl
take_same [] (suc k) d a apart lt = refl
take_same (p ∷ ps) zero d a apart lt = nothing a ∙ sym (none_below (p ∷ ps) p.range.low a apart (omega arith) (lt (omega arith)))
take_same (p ∷ ps) (suc k) d a apart lt = cons_same p (take k ps) ps a (take_same ps k d a (behind_first p ps apart).2 (λ less. lt (omega (arith, less))))

-- where those in front have ended the others are as good as all
pub drop_same : (ps : List UnitRange) (k : ℕ) (end a : ℕ) → AreApart ps → EndsBy end (take k ps) → end ≤ a → unit_at (drop k ps) a ≡ unit_at ps a
drop_same [] zero end a apart e le = refl
drop_same [] (suc k) end a apart e le = refl
drop_same (p ∷ ps) zero end a apart e le = refl
drop_same (p ∷ ps) (suc k) end a apart e le =
    let b = behind_first p ps apart in
    let last = ends p (take k ps) end b.0 e in
    drop_same ps k end a b.2 (ends_tail p (take k ps) end b.0 e) le ∙ sym (behind_end p ps a (omega (arith, last, le)))

-- one more in front
pub take_next : (ps : List UnitRange) (k : ℕ) (d : UnitRange) (a : ℕ) → AreApart ps → k < length ps → unit_at (take (k + 1) ps) a ≡ unit_at (get_or ps k d ∷ take k ps) a
take_next ps k d a apart lt =
    ap (λ (xs : List UnitRange). unit_at xs a) (take_more ps k d lt) ∙ pushed_same (take k ps) (get_or ps k d) a (take_apart ps k apart) (take_ends ps k d apart lt)

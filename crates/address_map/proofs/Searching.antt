-- The piece that contains an address is the last that begins there or before.
use Rattle.std.proofs.Common.{◌≡◌, ℕ, ◌-◌, suc, zero, ◌<◌, ◌≤◌, Bool, true, false, cond, ltb, leb, List, [], ◌∷◌, length, get_or, Some, None, arith, ap, sym, ◌∙◌, inl, inr, leb-true, leb-false}
use Rattle.std.specs.List.Sorted.{IsPartitionedBy, IsPartitionPoint}
use Rattle.std.proofs.lemmas.List.Sorted.{IsPartitionedBy-leb}
use Rattle.std.proofs.lemmas.Bool.{cases_lt, lt-ltb, le-ltb}
use Rattle.index_model.specs.declared.range.UnitRange.{UnitRange}
use Rattle.index_model.specs.Ranges.{unit_at}
use Rattle.index_model.specs.Pieces.{AreApart}
use Rattle.index_model.proofs.PieceLaws.{within, behind_end, nothing, behind_first, none_below}
use Rattle.address_map.proofs.UnitAt.{later_low}

low_rises : (ps : List UnitRange) (i j : ℕ) (d : UnitRange) → AreApart ps → i ≤ j → j < length ps → (get_or ps i d).range.low ≤ (get_or ps j d).range.low
low_rises [] i j d apart le lt = absurd (omega (arith, lt))
low_rises (p ∷ ps) zero zero d apart le lt = omega arith
low_rises (p ∷ ps) zero (suc j) d apart le lt =
    let b = behind_first p ps apart in
    let h = later_low p ps j d apart (omega (arith, lt)) in
    omega (arith, h, b.0)
low_rises (p ∷ ps) (suc i) zero d apart le lt = absurd (omega (arith, le))
low_rises (p ∷ ps) (suc i) (suc j) d apart le lt = low_rises ps i j d (behind_first p ps apart).2 (omega (arith, le)) (omega (arith, lt))

pub parted : (ps : List UnitRange) (a : ℕ) → AreApart ps → IsPartitionedBy (λ (p : UnitRange). leb p.range.low a) ps
parted ps a apart = IsPartitionedBy-leb (λ (p : UnitRange). p.range.low) ps a (λ i j d le lt. low_rises ps i j d apart le lt)

-- all begin behind the address
pub none_before : (ps : List UnitRange) (a : ℕ) (d : UnitRange) → AreApart ps → (0 < length ps → a < (get_or ps 0 d).range.low) → unit_at ps a ≡ None
none_before [] a d apart lt = nothing a
none_before (p ∷ ps) a d apart lt = none_below (p ∷ ps) p.range.low a apart (omega arith) (lt (omega arith))

-- the piece at k begins at the address or before, and the next behind it
pub found : (ps : List UnitRange) (k a : ℕ) (d : UnitRange) → AreApart ps → k < length ps → (get_or ps k d).range.low ≤ a → (suc k < length ps → a < (get_or ps (suc k) d).range.low) → unit_at ps a ≡ cond (ltb a (get_or ps k d).range.end) (Some (get_or ps k d).unit) None
found [] k a d apart lt low next = absurd (omega (arith, lt))
found (p ∷ ps) zero a d apart lt low next = elim (cases_lt a p.range.end) as (λ _. unit_at (p ∷ ps) a ≡ cond (ltb a p.range.end) (Some p.unit) None) [
  | inl less ↦ within p ps a low less ∙ sym (ap (λ (b : Bool). cond b (Some p.unit) None) (lt-ltb a p.range.end less))
  | inr past ↦ behind_end p ps a past ∙ none_before ps a d (behind_first p ps apart).2 (λ some. next (omega (arith, some))) ∙ sym (ap (λ (b : Bool). cond b (Some p.unit) None) (le-ltb a p.range.end past))
]
found (p ∷ ps) (suc k) a d apart lt low next =
    let h = later_low p ps k d apart (omega (arith, lt)) in
    behind_end p ps a (omega (arith, h, low)) ∙ found ps k a d (behind_first p ps apart).2 (omega (arith, lt)) low (λ less. next (omega (arith, less)))

-- ---- the first r pieces begin at the address or before, and the others behind it

no_more : (r : ℕ) → (1 ≤ r → ⊥) → r ≤ 0
no_more r empty = grind arith

abbrev pub Cut : List UnitRange → ℕ → ℕ → Type 0
Cut ps a r = IsPartitionPoint (λ (p : UnitRange). leb p.range.low a ≡ true) (λ (p : UnitRange). leb p.range.low a ≡ false) ps r

module _ (ps : List UnitRange) (a r : ℕ) (d : UnitRange) (apart : AreApart ps) (bound : r ≤ length ps) (cut : Cut ps a r) where
  begins : (k : ℕ) → k < r → (get_or ps k d).range.low ≤ a
  begins k lt = leb-true _ _ (cut.0 k d (omega arith) lt)

  later : (k : ℕ) → r ≤ k → k < length ps → a < (get_or ps k d).range.low
  later k le lt = leb-false _ _ (cut.1 k d le lt)

  -- no piece begins at the address or before
  pub none_begins : (1 ≤ r → ⊥) → None ≡ unit_at ps a
  none_begins empty = sym (none_before ps a d apart (λ some. later 0 (no_more r empty) some))

  last_begins : (k : ℕ) → 1 ≤ r → k ≡ r - 1 → unit_at ps a ≡ cond (ltb a (get_or ps k d).range.end) (Some (get_or ps k d).unit) None
  last_begins k some is = found ps k a d apart (omega (arith, is, some, bound)) (begins k (omega (arith, is, some))) (λ less. later (suc k) (omega (arith, is)) less)

  pub in_last : (k : ℕ) → 1 ≤ r → k ≡ r - 1 → a < (get_or ps k d).range.end → Some (get_or ps k d).unit ≡ unit_at ps a
  in_last k some is lt = sym (last_begins k some is ∙ ap (λ (b : Bool). cond b (Some (get_or ps k d).unit) None) (lt-ltb _ _ lt))

  pub past_last : (k : ℕ) → 1 ≤ r → k ≡ r - 1 → (get_or ps k d).range.end ≤ a → None ≡ unit_at ps a
  past_last k some is le = sym (last_begins k some is ∙ ap (λ (b : Bool). cond b (Some (get_or ps k d).unit) None) (le-ltb _ _ le))

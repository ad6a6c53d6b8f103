-- The unit at an address in a list of ranges, and in a list of pieces.
use Rattle.std.proofs.Common.{◌≡◌, ℕ, ◌+◌, ◌-◌, suc, zero, ◌<◌, ◌≤◌, Bool, true, false, cond, List, [], ◌∷◌, ◌++◌, length, get_or, drop, Option, Some, None, refl, arith, ap, sym, ◌∙◌, inl, inr, add-one}
use Rattle.std.proofs.lemmas.Bool.{cases_lt}
use Rattle.index_model.specs.declared.range.UnitRange.{UnitRange}
use Rattle.index_model.specs.Ranges.{contains, unit_at}
use Rattle.index_model.specs.Pieces.{AreApart}
use Rattle.index_model.proofs.PieceLaws.{as_find, within, behind_end, nothing, behind_first, not_here}
use Rattle.address_map.specs.Overlay.{EndsBy}

-- what the elements behind the end of a list are taken for
abbrev pub no_range : UnitRange
no_range = record { unit = 0; range = record { low = 0; end = 0 } }

-- ---- any ranges

pub unit_at-cons : (p : UnitRange) (ps : List UnitRange) (a : ℕ) → unit_at (p ∷ ps) a ≡ cond (contains a p.range) (Some p.unit) (unit_at ps a)
unfolding unit_at
unit_at-cons p ps a = as_find (contains a p.range) p ps a

pub cons_same : (p : UnitRange) (xs ys : List UnitRange) (a : ℕ) → unit_at xs a ≡ unit_at ys a → unit_at (p ∷ xs) a ≡ unit_at (p ∷ ys) a
cons_same p xs ys a e = unit_at-cons p xs a ∙ ap (λ (o : Option ℕ). cond (contains a p.range) (Some p.unit) o) e ∙ sym (unit_at-cons p ys a)

pub before_low : (p : UnitRange) (ps : List UnitRange) (a : ℕ) → a < p.range.low → unit_at (p ∷ ps) a ≡ unit_at ps a
before_low p ps a lt = unit_at-cons p ps a ∙ ap (λ (b : Bool). cond b (Some p.unit) (unit_at ps a)) (not_here p.range.low p.range.end a lt)

-- a range without an address changes nothing
pub empty_range : (p : UnitRange) (ps : List UnitRange) (a : ℕ) → p.range.end ≤ p.range.low → unit_at (p ∷ ps) a ≡ unit_at ps a
empty_range p ps a le = elim (cases_lt a p.range.low) as (λ _. unit_at (p ∷ ps) a ≡ unit_at ps a) [
  | inl lt ↦ before_low p ps a lt
  | inr ge ↦ behind_end p ps a (omega arith)
]

-- of two ranges one behind the other either may come first
pub swapped : (p q : UnitRange) (xs : List UnitRange) (a : ℕ) → q.range.end ≤ p.range.low → unit_at (q ∷ p ∷ xs) a ≡ unit_at (p ∷ q ∷ xs) a
swapped p q xs a le = elim (cases_lt a p.range.low) as (λ _. unit_at (q ∷ p ∷ xs) a ≡ unit_at (p ∷ q ∷ xs) a) [
  | inl lt ↦ cons_same q (p ∷ xs) xs a (before_low p xs a lt) ∙ sym (before_low p (q ∷ xs) a lt)
  | inr ge ↦ behind_end q (p ∷ xs) a (omega arith) ∙ cons_same p xs (q ∷ xs) a (sym (behind_end q xs a (omega arith)))
]

-- the first, or else the second
abbrev pub or_else : Option ℕ → Option ℕ → Option ℕ
or_else None other = other
or_else (Some u) other = Some u

choose : (b : Bool) (u : ℕ) (x y : Option ℕ) → cond b (Some u) (or_else x y) ≡ or_else (cond b (Some u) x) y
choose true u x y = refl
choose false u x y = refl

-- what stands in front wins
pub unit_at-append : (xs ys : List UnitRange) (a : ℕ) → unit_at (xs ++ ys) a ≡ or_else (unit_at xs a) (unit_at ys a)
unit_at-append [] ys a = sym (ap (λ (o : Option ℕ). or_else o (unit_at ys a)) (nothing a))
unit_at-append (x ∷ xs) ys a =
    unit_at-cons x (xs ++ ys) a ∙ ap (λ (o : Option ℕ). cond (contains a x.range) (Some x.unit) o) (unit_at-append xs ys a)
    ∙ choose (contains a x.range) x.unit (unit_at xs a) (unit_at ys a) ∙ sym (ap (λ (o : Option ℕ). or_else o (unit_at ys a)) (unit_at-cons x xs a))

-- ---- pieces

-- a first piece ends no later than all
pub ends : (p : UnitRange) (ps : List UnitRange) (end : ℕ) → p.range.low < p.range.end → EndsBy end (p ∷ ps) → p.range.end ≤ end
ends p ps end some e = elim (cases_lt end p.range.end) as (λ _. p.range.end ≤ end) [
  | inl lt ↦ absurd (clash p.unit (unit_at (p ∷ ps) (p.range.end - 1)) (within p ps (p.range.end - 1) (omega arith) (omega arith)) (e (p.range.end - 1) (omega arith)))
  | inr ge ↦ ge
]
  where
    clash : (u : ℕ) (x : Option ℕ) → x ≡ Some u → x ≡ None → ⊥
    clash u x f g = let h : Some u ≡ None = sym f ∙ g in cc

pub ends_tail : (p : UnitRange) (ps : List UnitRange) (end : ℕ) → p.range.low < p.range.end → EndsBy end (p ∷ ps) → EndsBy end ps
ends_tail p ps end some e a le = let h = ends p ps end some e in sym (behind_end p ps a (omega arith)) ∙ e a le

-- a later piece begins where the first ends, or behind it
pub later_low : (p : UnitRange) (ps : List UnitRange) (k : ℕ) (d : UnitRange) → AreApart (p ∷ ps) → k < length ps → p.range.end ≤ (get_or ps k d).range.low
later_low p [] k d apart lt = absurd (omega (arith, lt))
later_low p (q ∷ qs) zero d apart lt = apart.1
later_low p (q ∷ qs) (suc k) d apart lt =
    let b = behind_first q qs apart.3 in
    let h = later_low q qs k d apart.3 (omega (arith, lt)) in
    omega (arith, h, b.0, apart.1)

pub drop_apart : (ps : List UnitRange) (k : ℕ) → AreApart ps → AreApart (drop k ps)
drop_apart [] k apart = apart_empty k
  where
    apart_empty : (k : ℕ) → AreApart (drop k [])
    apart_empty zero = tt
    apart_empty (suc k) = tt
drop_apart (p ∷ ps) zero apart = apart
drop_apart (p ∷ ps) (suc k) apart = drop_apart ps k (behind_first p ps apart).2

-- a piece begins where the one before it ends, or behind it
pub next_low : (ps : List UnitRange) (k : ℕ) (d : UnitRange) → AreApart ps → k + 1 < length ps → (get_or ps k d).range.end ≤ (get_or ps (k + 1) d).range.low
next_low ps k d apart lt = rw (add-one k) (go ps k apart (omega (arith, lt)))
  where
    go : (ps : List UnitRange) (k : ℕ) → AreApart ps → suc k < length ps → (get_or ps k d).range.end ≤ (get_or ps (suc k) d).range.low
    go [] k apart lt = absurd (omega (arith, lt))
    go (p ∷ ps) zero apart lt = later_low p ps 0 d apart (omega (arith, lt))
    go (p ∷ ps) (suc k) apart lt = go ps k (behind_first p ps apart).2 (omega (arith, lt))

-- The pieces are exactly the maximal ranges in which one unit is the unit at the address.
use Rattle.std.proofs.Common.{◌≡◌, ℕ, zero, suc, ◌-◌, ◌<◌, ◌≤◌, true, false, cond, ltb, leb, List, [], ◌∷◌, length, get_or, Option, Some, None, ◌⊎◌, inl, inr, Contains, refl, arith, ap, sym, subst, ◌∙◌}
use Rattle.std.specs.Prelude.{◌↔◌}
use Rattle.std.proofs.lemmas.Bool.{cases_lt, leb-true, ltb-true}
use Rattle.common_laws.proofs.Booleans.{both_on}
use Rattle.index_model.specs.declared.range.UnitRange.{UnitRange}
use Rattle.index_model.specs.Ranges.{contains, unit_at}
use Rattle.index_model.specs.Pieces.{AreApart, IsMaximal, pieces}
use Rattle.index_model.proofs.PieceLaws.{First, behind_first, none_below, as_find, within, behind_end, nothing, equal_from, same_piece, pieces_are}

-- the first of the pieces, or one of the others
abbrev Among : List UnitRange → UnitRange → Type 0
Among [] r = ⊥
Among (p ∷ ps) r = (p ≡ r) ⊎ Among ps r

to_contains : (ps : List UnitRange) (r : UnitRange) → Among ps r → Contains ps r
to_contains [] r m = absurd m
to_contains (p ∷ ps) r (inl e) = (0, omega arith, e)
to_contains (p ∷ ps) r (inr m) = let c = to_contains ps r m in (suc c.0, omega (arith, c.1), c.2)

from_contains : (ps : List UnitRange) (r : UnitRange) (k : ℕ) → k < length ps → get_or ps k r ≡ r → Among ps r
from_contains [] r k lt e = absurd (omega (arith, lt))
from_contains (p ∷ ps) r zero lt e = inl e
from_contains (p ∷ ps) r (suc k) lt e = inr (from_contains ps r k (omega (arith, lt)) e)

-- ---- a piece is maximal

low_of : (ps : List UnitRange) (from : ℕ) (r : UnitRange) → AreApart ps → First from ps → Among ps r → from ≤ r.range.low
low_of [] from r apart first m = absurd m
low_of (p ∷ ps) from r apart first (inl e) = omega (arith, first, ap (λ (p : UnitRange). p.range.low) e)
low_of (p ∷ ps) from r apart first (inr m) =
    let b = behind_first p ps apart in
    omega (arith, first, b.0, low_of ps p.range.end r b.2 b.1 m)

no_unit : (u : ℕ) (x y : Option ℕ) → x ≡ None → x ≡ Some u → ⊥
no_unit u x y e f = let g : None ≡ Some u = sym e ∙ f in cc

same_unit : (u v : ℕ) (x : Option ℕ) → x ≡ Some u → x ≡ Some v → u ≡ v
same_unit u v x e f = let g : Some u ≡ Some v = sym e ∙ f in cc

-- a piece that begins where the first ends has another unit
touching : (p : UnitRange) (ps : List UnitRange) (r : UnitRange) → AreApart (p ∷ ps) → Among ps r → r.range.low ≡ p.range.end → p.unit ≡ r.unit → ⊥
touching p [] r apart m e unit = absurd m
touching p (q ∷ qs) r apart (inl same) e unit = apart.2 (sym e ∙ ap (λ (q : UnitRange). q.range.low) (sym same)) (unit ∙ ap (λ (q : UnitRange). q.unit) (sym same))
touching p (q ∷ qs) r apart (inr m) e unit =
    let b = behind_first q qs apart.3 in
    omega (arith, e, apart.1, b.0, low_of qs q.range.end r b.2 b.1 m)

first_behind : (p : UnitRange) (ps : List UnitRange) → AreApart (p ∷ ps) → unit_at (p ∷ ps) p.range.end ≡ Some p.unit → ⊥
first_behind p [] apart is = no_unit p.unit (unit_at (p ∷ []) p.range.end) None (behind_end p [] p.range.end (omega arith) ∙ nothing p.range.end) is
first_behind p (q ∷ qs) apart is =
    let there : unit_at (q ∷ qs) p.range.end ≡ Some p.unit = sym (behind_end p (q ∷ qs) p.range.end (omega arith)) ∙ is in
    let b = behind_first q qs apart.3 in
    elim (cases_lt p.range.end q.range.low) as (λ _. ⊥) [
      | inl gap ↦ no_unit p.unit (unit_at (q ∷ qs) p.range.end) None (none_below (q ∷ qs) q.range.low p.range.end apart.3 (omega arith) gap) there
      | inr touch ↦ apart.2 (omega (arith, apart.1, touch)) (same_unit p.unit q.unit (unit_at (q ∷ qs) p.range.end) there (within q qs p.range.end touch (omega (arith, apart.1, b.0))))
    ]

first_is_maximal : (p : UnitRange) (ps : List UnitRange) → AreApart (p ∷ ps) → IsMaximal (p ∷ ps) p
first_is_maximal p ps apart = record {
  some = (behind_first p ps apart).0;
  inside = λ a le lt. within p ps a le lt;
  before = λ a e is. no_unit p.unit (unit_at (p ∷ ps) a) None (none_below (p ∷ ps) p.range.low a apart (omega arith) (omega (arith, e))) is;
  behind = first_behind p ps apart;
}

later_is_maximal : (p : UnitRange) (ps : List UnitRange) (r : UnitRange) → AreApart (p ∷ ps) → Among ps r → IsMaximal ps r → IsMaximal (p ∷ ps) r
later_is_maximal p ps r apart m is =
    let b = behind_first p ps apart in
    let low = low_of ps p.range.end r b.2 b.1 m in
    record {
      some = is.some;
      inside = λ a le lt. behind_end p ps a (omega (arith, low, le)) ∙ is.inside a le lt;
      before = λ a e there. elim (cases_lt a p.range.end) as (λ _. ⊥) [
        | inl lt ↦ touching p ps r apart m (omega (arith, low, e, lt)) (same_unit p.unit r.unit (unit_at (p ∷ ps) a) (within p ps a (omega (arith, b.0, low, e)) lt) there)
        | inr ge ↦ is.before a e (sym (behind_end p ps a ge) ∙ there)
      ];
      behind = λ there. is.behind (sym (behind_end p ps r.range.end (omega (arith, low, is.some))) ∙ there);
    }

piece_is_maximal : (ps : List UnitRange) (r : UnitRange) → AreApart ps → Among ps r → IsMaximal ps r
piece_is_maximal [] r apart m = absurd m
piece_is_maximal (p ∷ ps) r apart (inl e) = subst (IsMaximal (p ∷ ps)) e (first_is_maximal p ps apart)
piece_is_maximal (p ∷ ps) r apart (inr m) = later_is_maximal p ps r apart m (piece_is_maximal ps r (behind_first p ps apart).2 m)

-- ---- a maximal range is a piece

record Found (ps : List UnitRange) (a u : ℕ) : Type 0 where
  piece : UnitRange
  among : Among ps piece
  low : piece.range.low ≤ a
  end : a < piece.range.end
  unit : piece.unit ≡ u

found : (ps : List UnitRange) (a u : ℕ) → unit_at ps a ≡ Some u → Found ps a u
unfolding unit_at
found [] a u is = absurd cc
found (p ∷ ps) a u is = elim (contains a p.range) as (λ b. contains a p.range ≡ b → cond b (Some p.unit) (unit_at ps a) ≡ Some u → Found (p ∷ ps) a u) [
  | true ↦ λ here same.
      let t = both_on (leb p.range.low a) (ltb a p.range.end) here in
      record { piece = p; among = inl refl; low = leb-true _ _ t.0; end = ltb-true _ _ t.1; unit = cc }
  | false ↦ λ _ more. later (found ps a u more)
] refl (sym (as_find (contains a p.range) p ps a) ∙ is)
  where
    later : Found ps a u → Found (p ∷ ps) a u
    later f = record { piece = f.piece; among = inr f.among; low = f.low; end = f.end; unit = f.unit }

-- two maximal ranges of one unit that share an address are the same
same_maximal : (ps : List UnitRange) (p r : UnitRange) → IsMaximal ps p → IsMaximal ps r → p.unit ≡ r.unit → p.range.low ≤ r.range.low → r.range.low < p.range.end → p ≡ r
same_maximal ps p r m n unit le lt =
    let some : Some p.unit ≡ Some r.unit = ap (λ (u : ℕ). Some u) unit in
    let low_not : p.range.low < r.range.low → ⊥ = λ less. n.before (r.range.low - 1) (omega (arith, less)) (m.inside (r.range.low - 1) (omega (arith, less)) (omega (arith, lt)) ∙ some) in
    let end_not : p.range.end < r.range.end → ⊥ = λ less. m.behind (n.inside p.range.end (omega (arith, lt)) less ∙ sym some) in
    let other_not : r.range.end < p.range.end → ⊥ = λ less. n.behind (m.inside r.range.end (omega (arith, le, n.some)) less ∙ some) in
    same_piece p r unit (equal_from p.range.low r.range.low 0 low_not (λ less. omega (arith, less, le))) (equal_from p.range.end r.range.end 0 end_not other_not)

maximal_is_piece : (ps : List UnitRange) (r : UnitRange) → AreApart ps → IsMaximal ps r → Among ps r
maximal_is_piece ps r apart is =
    let f = found ps r.range.low r.unit (is.inside r.range.low (omega arith) is.some) in
    subst (Among ps) (same_maximal ps f.piece r (piece_is_maximal ps f.piece apart f.among) is f.unit f.low f.end) f.among

-- ---- over ranges with the same unit at each address

same_ranges : (ps ranges : List UnitRange) (r : UnitRange) → ((a : ℕ) → unit_at ps a ≡ unit_at ranges a) → IsMaximal ps r → IsMaximal ranges r
same_ranges ps ranges r same is = record {
  some = is.some;
  inside = λ a le lt. sym (same a) ∙ is.inside a le lt;
  before = λ a e there. is.before a e (same a ∙ there);
  behind = λ there. is.behind (same r.range.end ∙ there);
}

pub pieces_are_maximal : (ranges : List UnitRange) (p : UnitRange) → Contains (pieces ranges) p ↔ IsMaximal ranges p
pieces_are_maximal ranges p =
    let is = pieces_are ranges in (
      λ c. same_ranges (pieces ranges) ranges p is.same (piece_is_maximal (pieces ranges) p is.apart (from_contains (pieces ranges) p c.0 c.1 c.2)),
      λ m. to_contains (pieces ranges) p (maximal_is_piece (pieces ranges) p is.apart (same_ranges ranges (pieces ranges) p (λ a. sym (is.same a)) m)),
    )

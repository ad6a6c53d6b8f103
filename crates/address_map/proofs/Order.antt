-- The order of pieces by their places.
use Rattle.std.proofs.Common.{◌≡◌, ◌≢◌, ℕ, suc, zero, ◌<◌, ◌≤◌, List, [], ◌∷◌, length, get_or, arith, add-one}
use Rattle.index_model.specs.declared.range.UnitRange.{UnitRange}
use Rattle.index_model.specs.Pieces.{AreApart, pieces}
use Rattle.index_model.proofs.PieceLaws.{behind_first, pieces_are}
use Rattle.address_map.specs.Laws.{AreInOrder, PiecesAreInOrder}
use Rattle.address_map.proofs.UnitAt.{later_low}

each_some : (ps : List UnitRange) (i : ℕ) (d : UnitRange) → AreApart ps → i < length ps → (get_or ps i d).range.low < (get_or ps i d).range.end
each_some [] i d apart lt = absurd (omega (arith, lt))
each_some (p ∷ ps) zero d apart lt = (behind_first p ps apart).0
each_some (p ∷ ps) (suc i) d apart lt = each_some ps i d (behind_first p ps apart).2 (omega (arith, lt))

each_ascends : (ps : List UnitRange) (i j : ℕ) (d : UnitRange) → AreApart ps → i < j → j < length ps → (get_or ps i d).range.end ≤ (get_or ps j d).range.low
each_ascends [] i j d apart less lt = absurd (omega (arith, lt))
each_ascends (p ∷ ps) i zero d apart less lt = absurd (omega (arith, less))
each_ascends (p ∷ ps) zero (suc j) d apart less lt = later_low p ps j d apart (omega (arith, lt))
each_ascends (p ∷ ps) (suc i) (suc j) d apart less lt = each_ascends ps i j d (behind_first p ps apart).2 (omega (arith, less)) (omega (arith, lt))

each_differs : (ps : List UnitRange) (i : ℕ) (d : UnitRange) → AreApart ps → suc i < length ps → (get_or ps i d).range.end ≡ (get_or ps (suc i) d).range.low → (get_or ps i d).unit ≢ (get_or ps (suc i) d).unit
each_differs [] i d apart lt = absurd (omega (arith, lt))
each_differs (p ∷ []) i d apart lt = absurd (omega (arith, lt))
each_differs (p ∷ q ∷ qs) zero d apart lt = apart.2
each_differs (p ∷ q ∷ qs) (suc i) d apart lt = each_differs (q ∷ qs) i d apart.3 (omega (arith, lt))

in_order : (ps : List UnitRange) → AreApart ps → AreInOrder ps
in_order ps apart = record {
  some = λ i d lt. each_some ps i d apart lt;
  ascending = λ i j d less lt. each_ascends ps i j d apart less lt;
  apart = λ i d lt. rw (add-one i) (each_differs ps i d apart (omega (arith, lt)));
}

pub pieces_in_order : PiecesAreInOrder
pieces_in_order ranges = in_order (pieces ranges) (pieces_are ranges).apart

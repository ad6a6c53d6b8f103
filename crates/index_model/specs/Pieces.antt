-- The pieces of the address space that units have.
use Rattle.std.specs.Prelude.{◌≡◌, ◌≢◌, ◌<◌, ◌≤◌, ℕ, suc, ◌&&◌, nat_lt, ◌==◌, if◌then◌else◌, List, [], ◌∷◌, flat_map, Option, Some, None, ⊤}
use Rattle.index_model.specs.declared.range.UnitRange.{UnitRange}
use Rattle.index_model.specs.Ranges.{unit_at}
use Rattle.index_model.specs.Ordered.{ascending}

-- ---- what pieces are

-- each piece has addresses, and ends before the next begins, or where that of another unit begins
abbrev pub AreApart : List UnitRange → Type 0
AreApart [] = ⊤
AreApart (p ∷ []) = p.range.low < p.range.end
AreApart (p ∷ q ∷ ps) = (p.range.low < p.range.end) × (p.range.end ≤ q.range.low) × (p.range.end ≡ q.range.low → p.unit ≢ q.unit) × AreApart (q ∷ ps)

-- a maximal range in which one unit is the unit at the address: neither the address before it nor its end has that unit
pub record IsMaximal (ranges : List UnitRange) (p : UnitRange) : Type 0 where
  pub some : p.range.low < p.range.end
  pub inside : (a : ℕ) → p.range.low ≤ a → a < p.range.end → unit_at ranges a ≡ Some p.unit
  pub before : (a : ℕ) → suc a ≡ p.range.low → unit_at ranges a ≢ Some p.unit
  pub behind : unit_at ranges p.range.end ≢ Some p.unit

-- ascending pieces that have the same unit at each address as the ranges
pub record IsPieces (ranges pieces : List UnitRange) : Type 0 where
  pub apart : AreApart pieces
  pub same : (a : ℕ) → unit_at pieces a ≡ unit_at ranges a

-- ---- the same, computed

-- a piece before others, as one with the first of them where they touch and have one unit
unfoldable pub before : UnitRange → List UnitRange → List UnitRange
before p [] = p ∷ []
before p (q ∷ ps) = if p.range.end == q.range.low && p.unit == q.unit then record p { range = record { low = p.range.low; end = q.range.end } } ∷ ps else p ∷ q ∷ ps

-- the piece from low to end, where a unit has it, before others
abbrev pub with_piece : ℕ → ℕ → Option ℕ → List UnitRange → List UnitRange
with_piece low end None others = others
with_piece low end (Some unit) others = before (record { unit = unit; range = record { low = low; end = end } }) others

-- from each edge to the next the unit at the first of both
unfoldable pub between : List UnitRange → List ℕ → List UnitRange
between ranges [] = []
between ranges (low ∷ []) = []
between ranges (low ∷ end ∷ edges) = with_piece low end (unit_at ranges low) (between ranges (end ∷ edges))

-- where ranges begin and end
abbrev pub edges_of : List UnitRange → List ℕ
edges_of ranges = flat_map (λ r. r.range.low ∷ r.range.end ∷ []) ranges

-- the pieces of ranges that stand in section order
unfoldable pub pieces : List UnitRange → List UnitRange
pieces ranges = between ranges (ascending nat_lt (edges_of ranges))

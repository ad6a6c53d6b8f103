-- What is made while one list of pieces is laid over another.
use Rattle.std.specs.Prelude.{◌≡◌, ◌≤◌, ◌<◌, ℕ, max, min, List, [], ◌∷◌, None, ⊤}
use Rattle.index_model.specs.declared.range.Range.{Range}
use Rattle.index_model.specs.declared.range.UnitRange.{UnitRange}
use Rattle.index_model.specs.Ranges.{unit_at}
use Rattle.index_model.specs.Pieces.{AreApart}

-- no address from the end on has a unit
abbrev pub EndsBy : ℕ → List UnitRange → Type 0
EndsBy end ps = (a : ℕ) → end ≤ a → unit_at ps a ≡ None

-- each range begins where those before it have ended, or behind it, and none begins below from
abbrev pub IsAscending : ℕ → List UnitRange → Type 0
IsAscending from [] = ⊤
IsAscending from (r ∷ rs) = (from ≤ r.range.low) × IsAscending (max r.range.low r.range.end) rs

-- the part of a piece that lies in a gap
abbrev pub part_of : UnitRange → Range → UnitRange
part_of p gap = record p { range = record { low = max p.range.low gap.low; end = min p.range.end gap.end } }

-- the old pieces, and behind them what others have in the gap
pub record IsFilled (gap : Range) (old others new : List UnitRange) : Type 0 where
  pub apart : AreApart new
  pub before : (a : ℕ) → a < gap.low → unit_at new a ≡ unit_at old a
  pub inside : (a : ℕ) → gap.low ≤ a → a < gap.end → unit_at new a ≡ unit_at others a
  pub behind : EndsBy gap.end new

-- the old pieces, and behind them what others have from an address on
pub record IsFollowed (from : ℕ) (old others new : List UnitRange) : Type 0 where
  pub apart : AreApart new
  pub before : (a : ℕ) → a < from → unit_at new a ≡ unit_at old a
  pub behind : (a : ℕ) → from ≤ a → unit_at new a ≡ unit_at others a

-- the pieces that are left have the same units from an address on
pub record IsLeft (from : ℕ) (pieces left : List UnitRange) : Type 0 where
  pub apart : AreApart left
  pub same : (a : ℕ) → from ≤ a → unit_at left a ≡ unit_at pieces a

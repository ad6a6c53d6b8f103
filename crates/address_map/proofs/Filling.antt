-- A gap is filled with what others have in it.
use Rattle.std.proofs.Common.{◌≡◌, ℕ, ◌+◌, suc, zero, ◌<◌, ◌≤◌, max, min, List, [], ◌∷◌, length, get_or, take, drop, None, refl, arith, ap, sym, ◌∙◌, inl, inr}
use Rattle.std.proofs.lemmas.Bool.{cases_lt}
use Rattle.index_model.specs.declared.range.Range.{Range}
use Rattle.index_model.specs.declared.range.UnitRange.{UnitRange}
use Rattle.index_model.specs.Ranges.{unit_at}
use Rattle.index_model.specs.Pieces.{AreApart, IsPieces}
use Rattle.index_model.proofs.PieceLaws.{within, behind_end, nothing}
use Rattle.address_map.specs.Overlay.{EndsBy, IsFilled, IsFollowed, IsLeft, part_of}
use Rattle.address_map.proofs.UnitAt.{no_range, cons_same, before_low, drop_apart, next_low}
use Rattle.address_map.proofs.Fronts.{take_ends, take_same, drop_same, take_next}

-- the gap is filled with what the first k others have in it
pub record IsFilledBy (gap : Range) (old others : List UnitRange) (k : ℕ) (new : List UnitRange) : Type 0 where
  pub apart : AreApart new
  pub before : (a : ℕ) → a < gap.low → unit_at new a ≡ unit_at old a
  pub inside : (a : ℕ) → gap.low ≤ a → a < gap.end → unit_at new a ≡ unit_at (take k others) a
  pub behind : EndsBy gap.end new
  pub done : EndsBy gap.end (take k others)

pub at_first : (gap : Range) (old others : List UnitRange) → gap.low ≤ gap.end → AreApart old → EndsBy gap.low old → IsFilledBy gap old others 0 old
at_first gap old others le apart e = record {
  apart = apart;
  before = λ a lt. refl;
  inside = λ a low lt. e a low ∙ sym (none_taken a others);
  behind = λ a end. e a (omega (arith, le, end));
  done = λ a end. none_taken a others;
}
  where
    none_taken : (a : ℕ) (ps : List UnitRange) → unit_at (take 0 ps) a ≡ None
    none_taken a [] = nothing a
    none_taken a (p ∷ ps) = nothing a

in_part : (gap : Range) (other : UnitRange) (xs : List UnitRange) (a : ℕ) → gap.low ≤ a → a < gap.end → unit_at (part_of other gap ∷ xs) a ≡ unit_at (other ∷ xs) a
in_part gap other xs a low lt = elim (cases_lt a other.range.low) as (λ _. unit_at (part_of other gap ∷ xs) a ≡ unit_at (other ∷ xs) a) [
  | inl less ↦ before_low (part_of other gap) xs a (omega (arith, less)) ∙ sym (before_low other xs a less)
  | inr from ↦ elim (cases_lt a other.range.end) as (λ _. unit_at (part_of other gap ∷ xs) a ≡ unit_at (other ∷ xs) a) [
    | inl less ↦ within (part_of other gap) xs a (omega (arith, from, low)) (omega (arith, less, lt)) ∙ sym (within other xs a from less)
    | inr past ↦ behind_end (part_of other gap) xs a (omega (arith, past)) ∙ sym (behind_end other xs a past)
  ]
]

-- the others at k, and the pieces before it is added and after
module _ (gap : Range) (old others new : List UnitRange) (k : ℕ) (d : UnitRange) (apart : AreApart others) (by : IsFilledBy gap old others k new) where
  abbrev other : UnitRange
  other = get_or others k d

  -- the pieces end where the part of the next begins, or before it
  pub part_behind : k < length others → EndsBy (part_of other gap).range.low new
  part_behind lt a le = elim (cases_lt a gap.end) as (λ _. unit_at new a ≡ None) [
    | inl less ↦ by.inside a (omega (arith, le)) less ∙ take_ends others k d apart lt a (omega (arith, le))
    | inr past ↦ by.behind a past
  ]

  pub left : IsLeft gap.end others (drop k others)
  left = record { apart = drop_apart others k apart; same = λ a le. drop_same others k gap.end a apart by.done le }

  -- the next begins behind the gap, or there is none
  pub filled : (k < length others → gap.end ≤ other.range.low) → IsFilled gap old others new
  filled next = record {
    apart = by.apart;
    before = by.before;
    inside = λ a low lt. by.inside a low lt ∙ take_same others k d a apart (λ less. let h = next less in omega (arith, h, lt));
    behind = by.behind;
  }

  module _ (newer : List UnitRange) (lt : k < length others) (added : IsPieces (part_of other gap ∷ new) newer) where
    before_next : (a : ℕ) → a < gap.low → unit_at newer a ≡ unit_at old a
    before_next a lt = added.same a ∙ before_low (part_of other gap) new a (omega (arith, lt)) ∙ by.before a lt

    inside_next : (a : ℕ) → gap.low ≤ a → a < gap.end → unit_at newer a ≡ unit_at (take (k + 1) others) a
    inside_next a low less =
        added.same a ∙ in_part gap other new a low less ∙ cons_same other new (take k others) a (by.inside a low less) ∙ sym (take_next others k d a apart lt)

    behind_next : EndsBy gap.end newer
    behind_next a le = added.same a ∙ behind_end (part_of other gap) new a (omega (arith, le)) ∙ by.behind a le

    -- one more that ends in the gap, or before it
    pub more : other.range.end ≤ gap.end → IsFilledBy gap old others (k + 1) newer
    more end = record {
      apart = added.apart;
      before = before_next;
      inside = inside_next;
      behind = behind_next;
      done = λ a le. take_next others k d a apart lt ∙ behind_end other (take k others) a (omega (arith, le, end)) ∙ by.done a le;
    }

    -- one more that ends behind the gap
    pub filled_up : gap.end < other.range.end → IsFilled gap old others newer
    filled_up end = record {
      apart = added.apart;
      before = before_next;
      inside = λ a low less. inside_next a low less ∙ take_same others (k + 1) d a apart (λ there. let h = next_low others k d apart there in omega (arith, h, less, end));
      behind = behind_next;
    }

-- ---- no end to the gap

-- the greatest end
abbrev pub top : List UnitRange → ℕ
top [] = 0
top (p ∷ ps) = max p.range.end (top ps)

pub below_top : (ps : List UnitRange) (k : ℕ) (d : UnitRange) → k < length ps → (get_or ps k d).range.end ≤ top ps
below_top [] k d lt = absurd (omega (arith, lt))
below_top (p ∷ ps) zero d lt = omega arith
below_top (p ∷ ps) (suc k) d lt = let h = below_top ps k d (omega (arith, lt)) in omega (arith, h)

above_top : (ps : List UnitRange) → EndsBy (top ps) ps
above_top [] a le = nothing a
above_top (p ∷ ps) a le = behind_end p ps a (omega (arith, le)) ∙ above_top ps a (omega (arith, le))

-- the part up to an own end is that up to any later one
pub own_end : (p : UnitRange) (from end : ℕ) → p.range.end ≤ end → part_of p (record { low = from; end = p.range.end }) ≡ part_of p (record { low = from; end = end })
own_end p from end le = let e : min p.range.end p.range.end ≡ min p.range.end end = omega arith in ap (λ (n : ℕ). record { unit = p.unit; range = record { low = max p.range.low from; end = n } }) e

-- from an address on, up to all ends
abbrev pub gap_of : ℕ → List UnitRange → Range
gap_of from others = record { low = from; end = max from (top others) }

pub followed : (from : ℕ) (old others new : List UnitRange) (k : ℕ) → length others ≤ k → AreApart others → IsFilledBy (gap_of from others) old others k new → IsFollowed from old others new
followed from old others new k all apart by =
    record {
      apart = by.apart;
      before = by.before;
      behind = λ a le. elim (cases_lt a (max from (top others))) as (λ _. unit_at new a ≡ unit_at others a) [
        | inl lt ↦ by.inside a le lt ∙ take_same others k no_range a apart (λ less. absurd (omega (arith, less, all)))
        | inr past ↦ by.behind a past ∙ sym (above_top others a (omega (arith, past)))
      ];
    }

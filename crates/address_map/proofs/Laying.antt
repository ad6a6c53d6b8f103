-- One list of pieces is laid over another.
use Rattle.std.proofs.Common.{◌≡◌, ℕ, ◌+◌, suc, ◌<◌, ◌≤◌, List, [], ◌∷◌, ◌++◌, length, get_or, drop, Option, Some, None, refl, arith, ap, sym, ◌∙◌, inl, inr, subst}
use Rattle.std.proofs.lemmas.Bool.{cases_lt}
use Rattle.index_model.specs.declared.range.UnitRange.{UnitRange}
use Rattle.index_model.specs.Ranges.{unit_at}
use Rattle.index_model.specs.Pieces.{AreApart, IsPieces}
use Rattle.index_model.proofs.PieceLaws.{within, behind_end, nothing, behind_first, none_below, First}
use Rattle.address_map.specs.Overlay.{EndsBy, IsFilled, IsFollowed, IsLeft}
use Rattle.address_map.proofs.Lists.{drop_0, drop_past, drop_next}
use Rattle.address_map.proofs.UnitAt.{or_else, unit_at-append, before_low, drop_apart}

-- Below `from` the pieces are done. From there on, the first k of the first list and the others that were dropped have ended.
pub record IsLaid (first second : List UnitRange) (k from : ℕ) (rest pieces : List UnitRange) : Type 0 where
  pub apart : AreApart pieces
  pub before : (a : ℕ) → a < from → unit_at pieces a ≡ unit_at (first ++ second) a
  pub behind : EndsBy from pieces
  pub next : First from (drop k first)
  pub first_left : (a : ℕ) → from ≤ a → unit_at (drop k first) a ≡ unit_at first a
  pub second_left : IsLeft from second rest

none_wins : (xs ys : List UnitRange) (a : ℕ) → unit_at xs a ≡ None → unit_at (xs ++ ys) a ≡ unit_at ys a
none_wins xs ys a e = unit_at-append xs ys a ∙ ap (λ (o : Option ℕ). or_else o (unit_at ys a)) e

unit_wins : (xs ys : List UnitRange) (a u : ℕ) → unit_at xs a ≡ Some u → unit_at (xs ++ ys) a ≡ Some u
unit_wins xs ys a u e = unit_at-append xs ys a ∙ ap (λ (o : Option ℕ). or_else o (unit_at ys a)) e

first_from_0 : (ps : List UnitRange) → First 0 ps
first_from_0 [] = tt
first_from_0 (p ∷ ps) = omega arith

pub at_first : (first second : List UnitRange) → AreApart second → IsLaid first second 0 0 second []
at_first first second apart = record {
  apart = tt;
  before = λ a lt. absurd (omega (arith, lt));
  behind = λ a le. nothing a;
  next = first_from_0 (drop 0 first);
  first_left = λ a le. ap (λ (ps : List UnitRange). unit_at ps a) (drop_0 first);
  second_left = record { apart = apart; same = λ a le. refl };
}

first_behind : (p : UnitRange) (ps : List UnitRange) → AreApart (p ∷ ps) → First p.range.end ps
first_behind p ps apart = (behind_first p ps apart).1

-- the gap before the next piece is filled, and the piece is added
module _ (first second : List UnitRange) (k from : ℕ) (rest pieces : List UnitRange) (apart : AreApart first) (laid : IsLaid first second k from rest pieces) where
  -- in the gap the first list has no unit
  in_gap : (end : ℕ) → First end (drop k first) → (a : ℕ) → from ≤ a → a < end → unit_at (first ++ second) a ≡ unit_at rest a
  in_gap end next a le lt =
      none_wins first second a (sym (laid.first_left a le) ∙ none_below (drop k first) end a (drop_apart first k apart) next lt) ∙ sym (laid.second_left.same a le)

  before_gap : (end : ℕ) (filled : List UnitRange) → First end (drop k first) → IsFilled (record { low = from; end = end }) pieces rest filled → (a : ℕ) → a < end → unit_at filled a ≡ unit_at (first ++ second) a
  before_gap end filled next by a lt = elim (cases_lt a from) as (λ _. unit_at filled a ≡ unit_at (first ++ second) a) [
    | inl less ↦ by.before a less ∙ laid.before a less
    | inr le ↦ by.inside a le lt ∙ sym (in_gap end next a le lt)
  ]

  module _ (d : UnitRange) (lt : k < length first) where
    abbrev piece : UnitRange
    piece = get_or first k d

    next_is : drop k first ≡ piece ∷ drop (k + 1) first
    next_is = drop_next first k d lt

    next_apart : AreApart (piece ∷ drop (k + 1) first)
    next_apart = subst AreApart next_is (drop_apart first k apart)

    -- the gap before the next piece isn't negative
    pub gap_some : from ≤ piece.range.low
    gap_some = subst (First from) next_is laid.next

    first_here : First piece.range.low (drop k first)
    first_here = let P : List UnitRange → Type 0 = First piece.range.low in subst P (sym next_is) (omega arith)

    pub more : (left filled newer : List UnitRange) → IsFilled (record { low = from; end = piece.range.low }) pieces rest filled → IsLeft piece.range.low rest left → IsPieces (piece ∷ filled) newer → IsLaid first second (k + 1) piece.range.end left newer
    more left filled newer by others added =
        let some : piece.range.low < piece.range.end = (behind_first piece (drop (k + 1) first) next_apart).0 in
        let gap : from ≤ piece.range.low = gap_some in record {
          apart = added.apart;
          before = λ a less. added.same a ∙ elim (cases_lt a piece.range.low) as (λ _. unit_at (piece ∷ filled) a ≡ unit_at (first ++ second) a) [
            | inl below ↦ before_low piece filled a below ∙ before_gap piece.range.low filled first_here by a below
            | inr le ↦ within piece filled a le less ∙ sym (unit_wins first second a piece.unit (sym (laid.first_left a (omega (arith, le, gap))) ∙ ap (λ (ps : List UnitRange). unit_at ps a) next_is ∙ within piece (drop (k + 1) first) a le less))
          ];
          behind = λ a le. added.same a ∙ behind_end piece filled a le ∙ by.behind a (omega (arith, le, some));
          next = first_behind piece (drop (k + 1) first) next_apart;
          first_left = λ a le. sym (behind_end piece (drop (k + 1) first) a le) ∙ sym (ap (λ (ps : List UnitRange). unit_at ps a) next_is) ∙ laid.first_left a (omega (arith, le, gap, some));
          second_left = record { apart = others.apart; same = λ a le. others.same a (omega (arith, le, some)) ∙ laid.second_left.same a (omega (arith, le, gap, some)) };
        }

  -- behind the last piece come the others that are left
  pub whole : (followed : List UnitRange) → length first ≤ k → IsFollowed from pieces rest followed → IsPieces (first ++ second) followed
  whole followed past by = record {
    apart = by.apart;
    same = λ a. elim (cases_lt a from) as (λ _. unit_at followed a ≡ unit_at (first ++ second) a) [
      | inl less ↦ by.before a less ∙ laid.before a less
      | inr le ↦ by.behind a le ∙ sym (in_gap (suc a) (subst (First (suc a)) (sym (drop_past first k past)) tt) a le (omega arith))
    ];
  }

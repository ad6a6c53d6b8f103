-- Ranges that ascend are joined in one pass.
use Rattle.std.proofs.Common.{◌≡◌, ℕ, ◌+◌, suc, zero, ◌<◌, ◌≤◌, max, List, [], ◌∷◌, ◌++◌, length, get_or, take, drop, Option, Some, None, refl, arith, ap, sym, subst, ◌∙◌, inl, inr}
use Rattle.std.proofs.lemmas.List.{take_more}
use Rattle.std.proofs.lemmas.Bool.{cases_lt}
use Rattle.index_model.specs.declared.range.UnitRange.{UnitRange}
use Rattle.index_model.specs.Ranges.{unit_at}
use Rattle.index_model.specs.Pieces.{IsPieces}
use Rattle.index_model.proofs.PieceLaws.{behind_end, nothing}
use Rattle.address_map.specs.Overlay.{EndsBy, IsAscending}
use Rattle.address_map.proofs.Lists.{drop_0, drop_past, drop_next, none_taken, take_past}
use Rattle.address_map.proofs.UnitAt.{or_else, unit_at-append, cons_same, before_low}

-- ---- the test

-- The ranges ascend exactly if those from k on do so from an address on. Before the first the address is 0.
pub record IsTested (ranges : List UnitRange) (k from : ℕ) : Type 0 where
  pub rest : IsAscending from (drop k ranges) → IsAscending 0 ranges
  pub all : IsAscending 0 ranges → IsAscending from (drop k ranges)
  pub first : k ≡ 0 → from ≡ 0

pub untested : (ranges : List UnitRange) → IsTested ranges 0 0
untested ranges = record { rest = subst (IsAscending 0) (drop_0 ranges); all = subst (IsAscending 0) (sym (drop_0 ranges)); first = λ _. refl }

pub one_more : (ranges : List UnitRange) (k from : ℕ) (d : UnitRange) → k < length ranges → from ≤ (get_or ranges k d).range.low → IsTested ranges k from → IsTested ranges (k + 1) (max (get_or ranges k d).range.low (get_or ranges k d).range.end)
one_more ranges k from d lt le is = record {
  rest = λ more. is.rest (subst (IsAscending from) (sym (drop_next ranges k d lt)) (le, more));
  all = λ ascends. (subst (IsAscending from) (drop_next ranges k d lt) (is.all ascends)).1;
  first = λ none. absurd (omega (arith, none));
}

pub all_tested : (ranges : List UnitRange) (k from : ℕ) → length ranges ≤ k → IsTested ranges k from → IsAscending 0 ranges
all_tested ranges k from past is = is.rest (subst (IsAscending from) (sym (drop_past ranges k past)) tt)

-- a range that begins below the address doesn't ascend
pub not_ascending : (ranges : List UnitRange) (k from : ℕ) (d : UnitRange) → k < length ranges → (get_or ranges k d).range.low < from → IsTested ranges k from → IsAscending 0 ranges → ⊥
not_ascending ranges k from d lt less is ascends =
    let le = (subst (IsAscending from) (drop_next ranges k d lt) (is.all ascends)).0 in
    omega (arith, le, less)

-- nor is it the first
pub two_at_least : (ranges : List UnitRange) (k from low : ℕ) → k < length ranges → low < from → IsTested ranges k from → 1 < length ranges
two_at_least ranges zero from low lt less is = absurd (let none = is.first refl in omega (arith, less, none))
two_at_least ranges (suc k) from low lt less is = omega (arith, lt)

-- ---- the pass

-- the first k ranges are joined, and the others ascend from where they have ended
pub record IsJoined (ranges : List UnitRange) (k : ℕ) (pieces : List UnitRange) : Type 0 where
  pub front : IsPieces (take k ranges) pieces
  pub from : ℕ
  pub behind : EndsBy from pieces
  pub rest : IsAscending from (drop k ranges)

pub at_first : (ranges : List UnitRange) → IsAscending 0 ranges → IsJoined ranges 0 []
at_first ranges ascends = record {
  front = record { apart = tt; same = λ a. ap (λ (ps : List UnitRange). unit_at ps a) (sym (none_taken ranges)) };
  from = 0;
  behind = λ a le. nothing a;
  rest = subst (IsAscending 0) (sym (drop_0 ranges)) ascends;
}

or_none : (x : Option ℕ) → x ≡ or_else x None
or_none None = refl
or_none (Some u) = refl

-- what comes last is as good as first, where the others have ended before it
last_or_first : (xs ps : List UnitRange) (r : UnitRange) (a : ℕ) → unit_at ps a ≡ unit_at xs a → EndsBy r.range.low ps → unit_at (r ∷ ps) a ≡ unit_at (xs ++ r ∷ []) a
last_or_first xs ps r a same ends = elim (cases_lt a r.range.low) as (λ _. unit_at (r ∷ ps) a ≡ unit_at (xs ++ r ∷ []) a) [
  | inl lt ↦ before_low r ps a lt ∙ same ∙ or_none (unit_at xs a) ∙ ap (or_else (unit_at xs a)) (sym (before_low r [] a lt ∙ nothing a)) ∙ sym (unit_at-append xs (r ∷ []) a)
  | inr le ↦ cons_same r ps [] a (ends a le ∙ sym (nothing a)) ∙ ap (λ (o : Option ℕ). or_else o (unit_at (r ∷ []) a)) (sym (ends a le) ∙ same) ∙ sym (unit_at-append xs (r ∷ []) a)
]

module _ (ranges : List UnitRange) (k : ℕ) (d : UnitRange) (pieces : List UnitRange) (lt : k < length ranges) (is : IsJoined ranges k pieces) where
  abbrev next : UnitRange
  next = get_or ranges k d

  ascends : IsAscending is.from (next ∷ drop (k + 1) ranges)
  ascends = subst (IsAscending is.from) (drop_next ranges k d lt) is.rest

  -- the pieces end where the next range begins, or before it
  pub next_behind : EndsBy next.range.low pieces
  next_behind a le = let from = ascends.0 in is.behind a (omega (arith, le, from))

  pub joined_next : (newer : List UnitRange) → IsPieces (next ∷ pieces) newer → IsJoined ranges (k + 1) newer
  joined_next newer added = record {
    front = record {
      apart = added.apart;
      same = λ a. added.same a ∙ last_or_first (take k ranges) pieces next a (is.front.same a) next_behind ∙ ap (λ (ps : List UnitRange). unit_at ps a) (sym (take_more ranges k d lt));
    };
    from = max next.range.low next.range.end;
    behind = λ a le. added.same a ∙ behind_end next pieces a (omega (arith, le)) ∙ next_behind a (omega (arith, le));
    rest = ascends.1;
  }

pub all_joined : (ranges : List UnitRange) (k : ℕ) (pieces : List UnitRange) → length ranges ≤ k → IsJoined ranges k pieces → IsPieces ranges pieces
all_joined ranges k pieces past is = subst (λ (xs : List UnitRange). IsPieces xs pieces) (take_past ranges k past) is.front

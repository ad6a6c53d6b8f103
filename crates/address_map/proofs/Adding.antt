-- A piece is added behind others.
use Rattle.std.proofs.Common.{◌≡◌, ◌≢◌, ℕ, ◌-◌, suc, zero, ◌<◌, ◌≤◌, true, false, List, [], ◌∷◌, ◌++◌, length, get_or, Some, refl, arith, ap, sym, subst, ◌∙◌, inl, inr}
use Rattle.std.proofs.Math.ListN.{set}
use Rattle.std.proofs.lemmas.Bool.{cases_lt, false≢true}
use Rattle.index_model.specs.declared.range.UnitRange.{UnitRange}
use Rattle.index_model.specs.Ranges.{unit_at}
use Rattle.index_model.specs.Pieces.{AreApart, IsPieces}
use Rattle.index_model.proofs.PieceLaws.{within, behind_end, behind_first}
use Rattle.address_map.specs.Overlay.{EndsBy}
use Rattle.address_map.proofs.UnitAt.{cons_same, before_low, empty_range, swapped, ends, ends_tail}

pub kept : (p : UnitRange) (ps : List UnitRange) → p.range.end ≤ p.range.low → AreApart ps → IsPieces (p ∷ ps) ps
kept p ps le apart = record { apart = apart; same = λ a. sym (empty_range p ps a le) }

-- ---- behind the last

-- the last doesn't touch the piece, or has another unit
abbrev pub IsOther : List UnitRange → UnitRange → Type 0
IsOther [] p = Unit {0}
IsOther (q ∷ []) p = q.range.end ≡ p.range.low → q.unit ≢ p.unit
IsOther (q ∷ r ∷ rs) p = IsOther (r ∷ rs) p

pub is_other : (ps : List UnitRange) (k : ℕ) (last p : UnitRange) → suc k ≡ length ps → last ≡ get_or ps k last → (last.range.end ≡ p.range.low → last.unit ≢ p.unit) → IsOther ps p
is_other [] k last p e is differs = tt
is_other (q ∷ []) zero last p e is differs = λ touch. subst (λ (l : UnitRange). l.range.end ≡ p.range.low → l.unit ≢ p.unit) is differs touch
is_other (q ∷ []) (suc k) last p e is differs = absurd (omega (arith, e))
is_other (q ∷ r ∷ rs) zero last p e is differs = absurd (omega (arith, e))
is_other (q ∷ r ∷ rs) (suc k) last p e is differs = is_other (r ∷ rs) k last p (omega (arith, e)) is differs

pushed_apart : (ps : List UnitRange) (p : UnitRange) → AreApart ps → EndsBy p.range.low ps → p.range.low < p.range.end → IsOther ps p → AreApart (ps ++ p ∷ [])
pushed_apart [] p apart e some differs = some
pushed_apart (q ∷ []) p apart e some differs = (apart, ends q [] p.range.low apart e, differs, some)
pushed_apart (q ∷ r ∷ rs) p apart e some differs = (apart.0, apart.1, apart.2, pushed_apart (r ∷ rs) p apart.3 (ends_tail q (r ∷ rs) p.range.low apart.0 e) some differs)

pub pushed_same : (ps : List UnitRange) (p : UnitRange) (a : ℕ) → AreApart ps → EndsBy p.range.low ps → unit_at (ps ++ p ∷ []) a ≡ unit_at (p ∷ ps) a
pushed_same [] p a apart e = refl
pushed_same (q ∷ qs) p a apart e =
    let b = behind_first q qs apart in
    cons_same q (qs ++ p ∷ []) (p ∷ qs) a (pushed_same qs p a b.2 (ends_tail q qs p.range.low b.0 e))
    ∙ swapped p q qs a (ends q qs p.range.low b.0 e)

pub pushed : (ps : List UnitRange) (p : UnitRange) → AreApart ps → EndsBy p.range.low ps → p.range.low < p.range.end → IsOther ps p → IsPieces (p ∷ ps) (ps ++ p ∷ [])
pushed ps p apart e some differs = record { apart = pushed_apart ps p apart e some differs; same = λ a. pushed_same ps p a apart e }

-- ---- joined to the last

-- the last, up to the end of the piece
abbrev pub longer : UnitRange → UnitRange → UnitRange
longer last p = record { unit = last.unit; range = record { low = last.range.low; end = p.range.end } }

module _ (last p : UnitRange) (touch : last.range.end ≡ p.range.low) (one : last.unit ≡ p.unit) (some : p.range.low < p.range.end) where
  joined_apart : (ps : List UnitRange) (k : ℕ) → suc k ≡ length ps → last ≡ get_or ps k last → AreApart ps → AreApart (set ps k (longer last p))
  joined_apart [] k e is apart = absurd (omega (arith, e))
  joined_apart (q ∷ []) (suc k) e is apart = absurd (omega (arith, e))
  joined_apart (q ∷ r ∷ rs) zero e is apart = absurd (omega (arith, e))
  joined_apart (q ∷ []) zero e is apart =
      let own : last.range.low < last.range.end = subst (λ (l : UnitRange). l.range.low < l.range.end) (sym is) apart in
      omega (arith, own, touch, some)
  joined_apart (q ∷ r ∷ rs) (suc zero) e is apart =
      let low : last.range.low ≡ r.range.low = ap (λ (l : UnitRange). l.range.low) is in
      let unit : last.unit ≡ r.unit = ap (λ (l : UnitRange). l.unit) is in
      (apart.0, omega (arith, apart.1, low), λ t u. apart.2 (t ∙ low) (u ∙ unit), joined_apart (r ∷ rs) zero (omega (arith, e)) is apart.3)
  joined_apart (q ∷ r ∷ rs) (suc (suc k)) e is apart = (apart.0, apart.1, apart.2, joined_apart (r ∷ rs) (suc k) (omega (arith, e)) is apart.3)

  one_piece : (a : ℕ) → last.range.low < last.range.end → unit_at (longer last p ∷ []) a ≡ unit_at (p ∷ last ∷ []) a
  one_piece a own = elim (cases_lt a last.range.low) as (λ _. unit_at (longer last p ∷ []) a ≡ unit_at (p ∷ last ∷ []) a) [
    | inl lt ↦ before_low (longer last p) [] a lt ∙ sym (before_low p (last ∷ []) a (omega arith) ∙ before_low last [] a lt)
    | inr ge ↦ elim (cases_lt a p.range.low) as (λ _. unit_at (longer last p ∷ []) a ≡ unit_at (p ∷ last ∷ []) a) [
      | inl lt ↦ within (longer last p) [] a ge (omega arith) ∙ sym (before_low p (last ∷ []) a lt ∙ within last [] a ge (omega arith))
      | inr from ↦ elim (cases_lt a p.range.end) as (λ _. unit_at (longer last p ∷ []) a ≡ unit_at (p ∷ last ∷ []) a) [
        | inl lt ↦ within (longer last p) [] a ge lt ∙ ap (λ (u : ℕ). Some u) one ∙ sym (within p (last ∷ []) a from lt)
        | inr past ↦ behind_end (longer last p) [] a past ∙ sym (behind_end p (last ∷ []) a past ∙ behind_end last [] a (omega arith))
      ]
    ]
  ]

  joined_same : (ps : List UnitRange) (k : ℕ) (a : ℕ) → suc k ≡ length ps → last ≡ get_or ps k last → AreApart ps → EndsBy p.range.low ps → unit_at (set ps k (longer last p)) a ≡ unit_at (p ∷ ps) a
  joined_same [] k a e is apart by = absurd (omega (arith, e))
  joined_same (q ∷ []) (suc k) a e is apart by = absurd (omega (arith, e))
  joined_same (q ∷ r ∷ rs) zero a e is apart by = absurd (omega (arith, e))
  joined_same (q ∷ []) zero a e is apart by =
      one_piece a (subst (λ (l : UnitRange). l.range.low < l.range.end) (sym is) apart) ∙ ap (λ (l : UnitRange). unit_at (p ∷ l ∷ []) a) is
  joined_same (q ∷ r ∷ rs) (suc k) a e is apart by =
      cons_same q (set (r ∷ rs) k (longer last p)) (p ∷ r ∷ rs) a (joined_same (r ∷ rs) k a (omega (arith, e)) is apart.3 (ends_tail q (r ∷ rs) p.range.low apart.0 by))
      ∙ swapped p q (r ∷ rs) a (ends q (r ∷ rs) p.range.low apart.0 by)

  pub joined : (ps : List UnitRange) (k : ℕ) → suc k ≡ length ps → last ≡ get_or ps k last → AreApart ps → EndsBy p.range.low ps → IsPieces (p ∷ ps) (set ps k (longer last p))
  joined ps k e is apart by = record { apart = joined_apart ps k e is apart; same = λ a. joined_same ps k a e is apart by }

pub none_other : (ps : List UnitRange) (p : UnitRange) → length ps ≡ 0 → IsOther ps p
none_other [] p e = tt
none_other (q ∷ qs) p e = absurd (omega (arith, e))

pub last_index : (n m : ℕ) → n ≡ m → 0 < n → suc (n - 1) ≡ m
last_index n m e lt = omega arith

pub no_item : (n m : ℕ) → n ≡ m → (0 < n → false ≡ true) → m ≡ 0
no_item zero m e none = sym e
no_item (suc n) m e none = absurd (false≢true (none (omega arith)))

pub set_same : (ps : List UnitRange) (k : ℕ) (last : UnitRange) → last ≡ get_or ps k last → set ps k last ≡ ps
set_same [] k last is = refl
set_same (q ∷ qs) zero last is = ap (λ (l : UnitRange). l ∷ qs) is
set_same (q ∷ qs) (suc k) last is = ap (λ (ps : List UnitRange). q ∷ ps) (set_same qs k last is)

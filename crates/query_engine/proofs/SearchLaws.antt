-- A search by halving among ascending texts, and its steps.
use Rattle.std.proofs.Common.{◌≡◌, ◌≢◌, ℕ, suc, ◌+◌, ◌-◌, ◌*◌, ◌^◌, ◌<◌, ◌≤◌, List, length, sym, ap, ◌∙◌, subst, inl, inr, arith}
use Rattle.std.proofs.Math.Nat.{mul-le-mul_left}
use Rattle.std.proofs.Math.Pow.{pow_mono}
use native.Mathlib.Numerals.{unary_clauses}
use Rattle.std.proofs.lemmas.Bool.{cases_lt}
use Rattle.std.specs.declared.cmp.Ordering.TheVariants.{Less, Greater}
use Rattle.index_model.specs.declared.entry.Entry.{Entry}
use Rattle.query_engine.specs.declared.names.SortedNames.{SortedNames}
use Rattle.query_engine.specs.Halving.{AddsHalvings}
use Rattle.query_engine.specs.Pairs.{ComesBefore}
use Rattle.query_engine.specs.Sorted.{name_at, AreNamesOf}
use Rattle.query_engine.proofs.TextOrder.{text_cmp, before_itself, before_trans, before_flip}

-- the text can only stand from low on and below high
pub record IsBetween (es : List Entry) (n : SortedNames) (text : List ℕ) (low high : ℕ) : Type 0 where
  pub order : low ≤ high
  pub within : high ≤ length n.groups.items
  pub below : (k : ℕ) → k < low → name_at es n k ≢ text
  pub above : (k : ℕ) → high ≤ k → k < length n.groups.items → name_at es n k ≢ text

-- so many steps were taken, and each of them halved what is left
pub record IsHalved (n old new left : ℕ) : Type 0 where
  pub rise : old ≤ new
  pub halved : 2 ^ (new - old) * left ≤ n
  pub few : 2 ^ (new - old) ≤ 2 * n + 2

-- ---- the range

module _ (es : List Entry) (n : SortedNames) (text : List ℕ) where
  pub between_all : IsBetween es n text 0 (length n.groups.items)
  between_all = record {
    order = omega arith;
    within = omega arith;
    below = λ k lt. absurd (omega arith);
    above = λ k from to. absurd (omega arith);
  }

  pub between_none : (low high : ℕ) → high ≤ low → IsBetween es n text low high → (k : ℕ) → k < length n.groups.items → name_at es n k ≢ text
  between_none low high end h k lt = elim (cases_lt k low) [
    | inl first ↦ h.below k first
    | inr last ↦ h.above k (omega arith) lt
  ]

  module _ (names : AreNamesOf es n) (low high middle : ℕ) (from : low ≤ middle) (to : middle < high) (h : IsBetween es n text low high) where
    -- an earlier text is another, if the middle one comes before
    pub between_upper : text_cmp (name_at es n middle) text ≡ Less → IsBetween es n text (middle + 1) high
    between_upper less = record {
      order = omega arith;
      within = h.within;
      below = λ k lt same. elim (cases_lt k middle) [
        | inl first ↦
            let before = names.ascending k middle first (omega (arith, h.within)) in
            before_itself text (before_trans text (name_at es n middle) text (subst (λ (w : List ℕ). ComesBefore w (name_at es n middle)) same before) less)
        | inr last ↦
            let here : k ≡ middle = omega arith in
            before_itself text (subst (λ (w : List ℕ). ComesBefore w text) (ap (name_at es n) (sym here) ∙ same) less)
      ];
      above = h.above;
    }

    pub between_lower : text_cmp (name_at es n middle) text ≡ Greater → IsBetween es n text low middle
    between_lower greater =
        let after : ComesBefore text (name_at es n middle) = before_flip (name_at es n middle) text greater in
        record {
          order = from;
          within = omega (arith, h.within);
          below = h.below;
          above = λ k start end same. elim (cases_lt middle k) [
            | inl last ↦
                let before = names.ascending middle k last end in
                before_itself text (before_trans text (name_at es n middle) text after (subst (λ (w : List ℕ). ComesBefore (name_at es n middle) w) same before))
            | inr first ↦
                let here : k ≡ middle = omega arith in
                before_itself text (subst (λ (w : List ℕ). ComesBefore text w) (ap (name_at es n) (sym here) ∙ same) after)
          ];
        }

-- ---- the steps

pub halved_none : (n old : ℕ) → IsHalved n old old n
halved_none n old =
    let none : old - old ≡ 0 = omega arith in
    record { rise = omega arith; halved = rw none (omega arith); few = rw none (omega arith) }

double : (p : ℕ) → 2 ^ suc p ≡ 2 ^ p * 2
double p = simp unary_clauses

pub halved_more : (n old new left rest : ℕ) → 0 < left → 2 * rest ≤ left → IsHalved n old new left → IsHalved n old (new + 1) rest
halved_more n old new left rest some half h =
    let p : ℕ = 2 ^ (new - old) in
    let next : (new + 1) - old ≡ suc (new - old) = omega (arith, h.rise) in
    let power : 2 ^ ((new + 1) - old) ≡ p * 2 = ap (λ k. 2 ^ k) next ∙ double (new - old) in
    let smaller : p * (2 * rest) ≤ p * left = mul-le-mul_left p half in
    let own : p * 1 ≤ p * left = mul-le-mul_left p some in
    record {
      rise = omega (arith, h.rise);
      halved = rw power (omega (arith, smaller, h.halved));
      few = rw power (omega (arith, own, h.halved));
    }

pub adds_halvings : (n old new left : ℕ) → IsHalved n old new left → AddsHalvings n old new
adds_halvings n old new left h = record { halvings = new - old; few = h.few; added = omega (arith, h.rise) }

-- at most k steps were added, where one more power of two is too large
pub adds_at_most : (n old new k : ℕ) → 2 * n + 2 < 2 ^ (k + 1) → AddsHalvings n old new → new ≤ old + k
adds_at_most n old new k large h = elim (cases_lt k h.halvings) [
  | inl more ↦
      let low : k + 1 ≤ h.halvings = omega arith in
      let power : 2 ^ (k + 1) ≤ 2 ^ h.halvings = pow_mono {i = k + 1} {j = h.halvings} low in
      absurd (omega (arith, power, h.few))
  | inr few ↦ omega (arith, h.added)
]

-- The last entry that passes a test, of entries that rise.
use Rattle.std.proofs.Common.{◌≡◌, ℕ, zero, suc, ◌+◌, ◌<◌, ◌≤◌, Bool, true, false, cond, ltb, eqb, ◌&&◌, List, [], ◌∷◌, Option, Some, None, refl, sym, ap, subst, ◌∙◌, arith, inl, inr, ⊎_elim}
use Rattle.std.specs.Prelude.{Contains, filter, map, slice_index}
use Rattle.std.specs.List.{last_or}
use Rattle.std.specs.List.Sorted.{IsStrictlyIncreasing}
use Rattle.std.proofs.lemmas.Bool.{true≢false, and_parts, and_from, ltb-true, lt-ltb, eqb-true, eq-eqb}
use mathlib.Core.Logic.{◌⊎◌}
use Rattle.common_laws.proofs.Members.{contains_here, contains_later, contains_cases}
use Rattle.index_model.specs.Walk.{Item, parent_of}
use Rattle.index_model.specs.LawsOrder.{HasParent}

-- the offsets rise, from n on
abbrev pub Rise : ℕ → List Item → Type 0
Rise n [] = Unit {0}
Rise n (d ∷ ds) = (n ≤ d.at) × Rise (suc d.at) ds

pub rise_below : (n : ℕ) (ds : List Item) (e : Item) → Rise n ds → Contains ds e → n ≤ e.at
rise_below n [] e r c = absurd (omega (arith, c.1))
rise_below n (d ∷ ds) e r c = ⊎_elim (λ (same : d ≡ e). omega (arith, r.0, ap (λ (x : Item). x.at) same)) (λ (l : Contains ds e). omega (arith, r.0, rise_below (suc d.at) ds e r.1 l)) (contains_cases d ds e c)

pub increasing : (n : ℕ) (ds : List Item) → Rise n ds → IsStrictlyIncreasing (map (λ d. d.at) ds)
increasing n [] r k l = absurd (omega arith)
increasing n (d ∷ []) r k l = absurd (omega arith)
increasing n (d ∷ e ∷ ds) r zero l = omega (arith, r.1.0)
increasing n (d ∷ e ∷ ds) r (suc k) l =
    let next : suc (k + 1) ≡ suc k + 1 = omega arith in
    let places : List ℕ = map (λ (x : Item). x.at) (d ∷ e ∷ ds) in
    subst (λ (m : ℕ). slice_index places (suc k) < slice_index places m) next (increasing (suc d.at) (e ∷ ds) r.1 k (omega arith))

module _ (p : Item → Bool) where
  -- e is the last that passes
  abbrev IsLast : List Item → Item → Type 0
  IsLast ds e = Contains ds e × (p e ≡ true) × ((o : Item) → Contains ds o → p o ≡ true → o.at ≤ e.at)

  abbrev NonePasses : List Item → Type 0
  NonePasses ds = (o : Item) → Contains ds o → p o ≡ true → ⊥

  abbrev Ends : List Item → Option Item → Option Item → Type 0
  Ends ds before r = (NonePasses ds × (r ≡ before)) ⊎ ((e : Item) × (r ≡ Some e) × IsLast ds e)

  module _ (n : ℕ) (x : Item) (ds : List Item) (rise : Rise (suc x.at) ds) (before r : Option Item) where
    passes : p x ≡ true → Ends ds (Some x) r → Ends (x ∷ ds) before r
    passes on h = ⊎_elim
        (λ (l : NonePasses ds × (r ≡ Some x)). inr (x, l.1, (contains_here x ds, on, λ o c t. ⊎_elim (λ (same : x ≡ o). omega (arith, ap (λ (y : Item). y.at) same)) (λ (later : Contains ds o). absurd (l.0 o later t)) (contains_cases x ds o c))))
        (λ (g : (e : Item) × (r ≡ Some e) × IsLast ds e). inr (g.0, g.1, (contains_later x ds g.0 g.2.0, g.2.1, λ o c t. ⊎_elim (λ (same : x ≡ o). omega (arith, ap (λ (y : Item). y.at) same, rise_below (suc x.at) ds g.0 rise g.2.0)) (λ (later : Contains ds o). g.2.2 o later t) (contains_cases x ds o c))))
        h

    skips : p x ≡ false → Ends ds before r → Ends (x ∷ ds) before r
    skips off h = ⊎_elim
        (λ (l : NonePasses ds × (r ≡ before)). inl (λ o c t. ⊎_elim (λ (same : x ≡ o). true≢false (sym t ∙ ap p (sym same) ∙ off)) (λ (later : Contains ds o). l.0 o later t) (contains_cases x ds o c), l.1))
        (λ (g : (e : Item) × (r ≡ Some e) × IsLast ds e). inr (g.0, g.1, (contains_later x ds g.0 g.2.0, g.2.1, λ o c t. ⊎_elim (λ (same : x ≡ o). absurd (true≢false (sym t ∙ ap p (sym same) ∙ off))) (λ (later : Contains ds o). g.2.2 o later t) (contains_cases x ds o c))))
        h

  ends : (n : ℕ) (ds : List Item) (before : Option Item) → Rise n ds → Ends ds before (last_or before (filter p ds))
  ends n [] before rise = inl (λ o c t. omega (arith, c.1), refl)
  ends n (x ∷ ds) before rise =
      elim (p x) as (λ b. p x ≡ b → Ends (x ∷ ds) before (last_or before (cond b (x ∷ filter p ds) (filter p ds)))) [
        | true ↦ λ on. passes n x ds rise.1 before (last_or (Some x) (filter p ds)) on (ends (suc x.at) ds (Some x) rise.1)
        | false ↦ λ off. skips n x ds rise.1 before (last_or before (filter p ds)) off (ends (suc x.at) ds before rise.1)
      ] refl

-- ---- the parent

abbrev is_above : Item → Item → Bool
is_above d e = ltb e.at d.at && eqb (e.depth + 1) d.depth

above : (d e : Item) → e.at < d.at → e.depth + 1 ≡ d.depth → is_above d e ≡ true
above d e l s = and_from _ _ (lt-ltb e.at d.at l) (eq-eqb (e.depth + 1) d.depth s)

from_above : (d e : Item) → is_above d e ≡ true → (e.at < d.at) × (e.depth + 1 ≡ d.depth)
from_above d e h = let p = and_parts (ltb e.at d.at) (eqb (e.depth + 1) d.depth) h in (ltb-true e.at d.at p.0, eqb-true (e.depth + 1) d.depth p.1)

module _ (n : ℕ) (ds : List Item) (rise : Rise n ds) (d : Item) where
  -- where an earlier entry is one level up the last such is the parent
  pub has_parent : (e : Item) → Contains ds e → e.at < d.at → e.depth + 1 ≡ d.depth → HasParent ds d
  has_parent e c l s = ⊎_elim
      (λ (none : NonePasses (is_above d) ds × (parent_of ds d ≡ None)). absurd (none.0 e c (above d e l s)))
      (λ (g : (m : Item) × (parent_of ds d ≡ Some m) × IsLast (is_above d) ds m). let h = from_above d g.0 g.2.1 in record {
        parent = g.0;
        is = g.1;
        member = g.2.0;
        earlier = h.0;
        one_up = h.1;
        last = λ o oc ol os. g.2.2 o oc (above d o ol os);
      })
      (ends (is_above d) n ds None rise)

  -- an entry of depth 0 has none
  pub no_parent : d.depth ≡ 0 → parent_of ds d ≡ None
  no_parent z = ⊎_elim
      (λ (none : NonePasses (is_above d) ds × (parent_of ds d ≡ None)). none.1)
      (λ (g : (m : Item) × (parent_of ds d ≡ Some m) × IsLast (is_above d) ds m). let h = from_above d g.0 g.2.1 in absurd (omega (arith, h.1, z)))
      (ends (is_above d) n ds None rise)

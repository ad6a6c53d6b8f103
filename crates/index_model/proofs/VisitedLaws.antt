-- Whether an entry is visited goes by its parent.
use Rattle.std.proofs.Common.{◌≡◌, ℕ, zero, suc, ◌+◌, ◌<◌, Bool, true, false, cond, ltb, eqb, ◌&&◌, List, [], ◌∷◌, Option, Some, None, refl, sym, ap, ◌∙◌, arith, inl, inr, ⊎_elim}
use Rattle.std.specs.Prelude.{filter}
use Rattle.std.specs.List.{last_or}
use Rattle.std.proofs.lemmas.Bool.{and_parts, eqb-true}
use Rattle.std.proofs.lemmas.Option.{same_Some}
use mathlib.Core.Logic.{◌⊎◌}
use Rattle.index_model.specs.declared.rules.Parent.TheVariants.{Root, Other, Seen}
use Rattle.index_model.specs.Walk.{Item, parent_of}
use Rattle.index_model.specs.Rules.{is_visited, is_visited_at, is_visited_under, parent_as}
use Rattle.index_model.specs.LawsRules.{VisitedIsByParent}

-- the last that passes passes
last_passes : (p : Item → Bool) (ds : List Item) (before : Option Item) (e : Item) → last_or before (filter p ds) ≡ Some e → (before ≡ Some e) ⊎ (p e ≡ true)
last_passes p [] before e is = inl is
last_passes p (d ∷ ds) before e is =
    elim (p d) as (λ b. p d ≡ b → last_or before (cond b (d ∷ filter p ds) (filter p ds)) ≡ Some e → (before ≡ Some e) ⊎ (p e ≡ true)) [
      | true ↦ λ on h. ⊎_elim (λ (same : Some d ≡ Some e). inr (ap p (sym (same_Some d e same)) ∙ on)) (λ (t : p e ≡ true). inr t) (last_passes p ds (Some d) e h)
      | false ↦ λ _ h. last_passes p ds before e h
    ] refl is

parent_depth : (ds : List Item) (d e : Item) → parent_of ds d ≡ Some e → e.depth + 1 ≡ d.depth
parent_depth ds d e is = ⊎_elim
    (λ (no : None ≡ Some e). absurd cc)
    (λ (t : (ltb e.at d.at && eqb (e.depth + 1) d.depth) ≡ true). eqb-true (e.depth + 1) d.depth (and_parts (ltb e.at d.at) (eqb (e.depth + 1) d.depth) t).1)
    (last_passes (λ x. ltb x.at d.at && eqb (x.depth + 1) d.depth) ds None e is)

module _ (ada : Bool) (ds : List Item) where
  root : (n : ℕ) (d : Item) → n ≡ 0 → is_visited_at n ada ds d ≡ false
  unfolding is_visited_at
  root zero d z = refl
  root (suc n) d z = absurd (omega arith)

  same_parent : (n : ℕ) (o : Option Item) → ((e : Item) → o ≡ Some e → e.depth ≡ n) → parent_as o (λ e. is_visited_at n ada ds e) ≡ parent_as o (is_visited ada ds)
  same_parent n None h = refl
  same_parent n (Some e) h = ap (λ (b : Bool). cond (eqb e.depth 0) Root (cond b (Seen e.tag) Other)) (ap (λ (k : ℕ). is_visited_at k ada ds e) (sym (h e refl)))

  other : (n : ℕ) (d : Item) → n ≡ d.depth → 0 < n → is_visited_at n ada ds d ≡ is_visited_under (parent_as (parent_of ds d) (is_visited ada ds)) ada
  unfolding is_visited_at
  other zero d is lt = absurd (omega arith)
  other (suc n) d is lt = ap (λ x. is_visited_under x ada) (same_parent n (parent_of ds d) (λ e h. let up = parent_depth ds d e h in omega (arith, up, is)))

pub visited_by_parent : VisitedIsByParent
visited_by_parent ada ds d = record { root = root ada ds d.depth d; other = other ada ds d.depth d refl }

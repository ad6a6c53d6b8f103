-- The first entry of a unit is its root.
use Rattle.std.proofs.Common.{◌≡◌, ℕ, suc, List, ◌∷◌, Some, Ok, sym, ap, subst, arith, ⊎_elim}
use Rattle.std.specs.Prelude.{Contains}
use Rattle.std.proofs.lemmas.Bool.{cases_eq}
use Rattle.common_laws.proofs.Members.{contains_here, contains_cases}
use Rattle.index_model.specs.declared.unit.Unit.{Unit as UnitHeader}
use Rattle.index_model.specs.Program.{Walked, walked, items_of, root_of}
use Rattle.index_model.specs.Sections.{Section}
use Rattle.index_model.specs.Walk.{Item}
use Rattle.index_model.proofs.OrderLaws.{walks_in_order, walk_rises}
use Rattle.index_model.proofs.ParentLaws.{Rise, rise_below}

pub first_is_root : (ss : List Section) (u : ℕ × UnitHeader) (w : Walked) → walked ss u ≡ Ok w → (r : Item) (rest : List Item) → items_of w ≡ r ∷ rest → root_of w ≡ Some r
first_is_root ss u w is r rest all =
    let member : Contains (items_of w) r = subst (λ (ds : List Item). Contains ds r) (sym all) (contains_here r rest) in
    let o = walks_in_order ss u w is in
    ⊎_elim
    (λ (top : r.depth ≡ 0). (o.root r member top).0)
    (λ (other : r.depth ≡ 0 → ⊥).
    let h = o.parents r member (omega (arith, other)) in
    let n = walk_rises ss u w is in
    let rise : Rise n.0 (r ∷ rest) = subst (Rise n.0) all n.1 in
    let c : Contains (r ∷ rest) h.parent = subst (λ (ds : List Item). Contains ds h.parent) all h.member in
    absurd (⊎_elim
    (λ (same : r ≡ h.parent). omega (arith, h.earlier, ap (λ (d : Item). d.at) same))
    (λ (later : Contains rest h.parent). omega (arith, h.earlier, rise_below (suc r.at) rest h.parent rise.1 later))
    (contains_cases r rest h.parent c)))
    (cases_eq r.depth 0)

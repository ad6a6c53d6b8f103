-- The node at an offset, where a search in nodes that rise ends.
use Rattle.std.proofs.Common.{◌≡◌, ℕ, ◌<◌, ◌≤◌, List, length, get_or, Some, None, sym, ap, ◌∙◌, arith, ⊎_elim}
use Rattle.std.specs.Prelude.{slice_get}
use Rattle.std.specs.List.Sorted.{IsNonDecreasingBy, IsPartitionPoint}
use Rattle.std.proofs.lemmas.Bool.{cases_lt}
use Rattle.std.proofs.lemmas.Option.{get_or_from_slice_get, slice_get_cases}
use Rattle.index_model.specs.NodeSeen.{NodeSeen}
use Rattle.parent_resolve.specs.Visits.{HasNoneAt, IsNodeAt}

-- an item that is there stands inside
pub inside : (nodes : List NodeSeen) (n : ℕ) (s : NodeSeen) → slice_get nodes n ≡ Some s → n < length nodes
inside nodes n s is = ⊎_elim
    (λ (h : (x : NodeSeen) × (n < length nodes) × (slice_get nodes n ≡ Some x) × (get_or nodes n x ≡ x)). h.1)
    (λ (h : (length nodes ≤ n) × (slice_get nodes n ≡ None)). absurd (let stuck = sym is ∙ h.1 in cc))
    (slice_get_cases nodes n).1

pub past : (nodes : List NodeSeen) (n : ℕ) → slice_get nodes n ≡ None → length nodes ≤ n
past nodes n is = ⊎_elim
    (λ (h : (x : NodeSeen) × (n < length nodes) × (slice_get nodes n ≡ Some x) × (get_or nodes n x ≡ x)). absurd (let stuck = sym is ∙ h.2 in cc))
    (λ (h : (length nodes ≤ n) × (slice_get nodes n ≡ None)). h.0)
    (slice_get_cases nodes n).1

pub found_there : (nodes : List NodeSeen) (before o n : ℕ) (s : NodeSeen) → slice_get nodes n ≡ Some s → n < before → s.facts.offset ≡ o → IsNodeAt nodes before o n s
found_there nodes before o n s is early offset = record { within = inside nodes n s is; early = early; is = sym (get_or_from_slice_get nodes n s s is); offset = offset }

module _ (nodes : List NodeSeen) (before o n : ℕ) (point : IsPartitionPoint (λ d. d.facts.offset < o) (λ d. o ≤ d.facts.offset) nodes n) where
  pub none_before : before ≤ n → HasNoneAt nodes before o
  none_before le k d early lt same = let b = point.0 k d (omega arith) (omega (arith, early, le)) in omega (arith, b, same)

  pub none_past : slice_get nodes n ≡ None → HasNoneAt nodes before o
  none_past is k d early lt same = let end = past nodes n is in let b = point.0 k d (omega arith) (omega (arith, lt, end)) in omega (arith, b, same)

  pub none_other : IsNonDecreasingBy (λ d. d.facts.offset) nodes → (s : NodeSeen) → slice_get nodes n ≡ Some s → (s.facts.offset ≡ o → ⊥) → HasNoneAt nodes before o
  none_other rise s is other k d early lt same = ⊎_elim
      (λ (low : k < n). let b = point.0 k d (omega arith) low in omega (arith, b, same))
      (λ (high : n ≤ k).
      let here = point.1 n d (omega arith) (omega (arith, high, lt)) in
      let up = rise n k d high lt in
      let own = ap (λ (x : NodeSeen). x.facts.offset) (get_or_from_slice_get nodes n s d is) in
      other (omega (arith, here, up, own, same)))
      (cases_lt k n)

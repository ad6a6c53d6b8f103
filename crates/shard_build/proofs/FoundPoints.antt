-- What a search in a list that rises finds.
use Rattle.std.proofs.Common.{◌≡◌, ℕ, zero, suc, ◌<◌, ◌≤◌, Bool, cond, List, [], ◌∷◌, length, take, drop, get_or, Option, Some, None, refl, sym, ap, subst, ◌∙◌, arith, ⊎_elim}
use Rattle.std.specs.Prelude.{Contains, IfSome, filter, find, slice_get}
use Rattle.std.specs.List.{last_or}
use Rattle.std.specs.List.Sorted.{IsNonDecreasingBy}
use Rattle.std.proofs.lemmas.Bool.{eq-eqb, ne_eqb, cases_eq}
use Rattle.std.proofs.lemmas.List.{take-append-drop}
use Rattle.std.proofs.lemmas.List.Elements.{Contains-append_left}
use Rattle.std.proofs.lemmas.Option.{same_Some}
use Rattle.common_laws.proofs.Members.{contains_here, contains_later, of_filter}
use Rattle.index_model.specs.NodeSeen.{NodeSeen}
use Rattle.shard_build.proofs.FoundNodes.{has_offset}

-- ---- the last that passes

last_in : {A : Type 0} (y : A) (ys : List A) (x : A) → last_or (Some y) ys ≡ Some x → Contains (y ∷ ys) x
last_in {A = A} y [] x is = subst (Contains (y ∷ [])) (same_Some y x is) (contains_here y [])
last_in y (z ∷ zs) x is = contains_later y (z ∷ zs) x (last_in z zs x is)

last_of : {A : Type 0} (ys : List A) (x : A) → last_or None ys ≡ Some x → Contains ys x
last_of [] x is = absurd cc
last_of (y ∷ ys) x is = last_in y ys x is

-- it is a member
pub last_member : {A : Type 0} (p : A → Bool) (xs : List A) (n : ℕ) (o : Option A) → o ≡ last_or None (filter p (take n xs)) → IfSome o (Contains xs)
last_member p xs n None is = tt
last_member {A = A} p xs n (Some x) is =
    let c = last_of (filter p (take n xs)) x (sym is) in
    subst (λ (ys : List A). Contains ys x) (take-append-drop n xs) (Contains-append_left (take n xs) (drop n xs) x (of_filter p (take n xs) x c).0)

-- ---- the node at an offset

none_later : (o : ℕ) (nodes : List NodeSeen) → ((k : ℕ) (d : NodeSeen) → k < length nodes → o < (get_or nodes k d).facts.offset) → find (has_offset o) nodes ≡ None
none_later o [] later = refl
none_later o (x ∷ xs) later =
    ap (λ (b : Bool). cond b (Some x) (find (has_offset o) xs)) (ne_eqb x.facts.offset o (λ same. omega (arith, same, later 0 x (omega arith)))) ∙
    none_later o xs (λ k d lt. later (suc k) d (omega (arith, lt)))

-- the node, if it has the offset
abbrev pub checked : ℕ → Option NodeSeen → Option NodeSeen
checked o None = None
checked o (Some n) = cond (has_offset o n) (Some n) None

module _ (o : ℕ) where
  -- the first n nodes stand before the offset, and the others don't
  pub node_at_point : (nodes : List NodeSeen) (n : ℕ) → IsNonDecreasingBy (λ d. d.facts.offset) nodes → ((k : ℕ) (d : NodeSeen) → k < n → (get_or nodes k d).facts.offset < o) → ((k : ℕ) (d : NodeSeen) → n ≤ k → k < length nodes → o ≤ (get_or nodes k d).facts.offset) → find (has_offset o) nodes ≡ checked o (slice_get nodes n)
  node_at_point [] n rise before behind = refl
  node_at_point (x ∷ xs) zero rise before behind = ⊎_elim
      (λ (same : x.facts.offset ≡ o). let on = eq-eqb x.facts.offset o same in ap (λ (b : Bool). cond b (Some x) (find (has_offset o) xs)) on ∙ ap (λ (b : Bool). cond b (Some x) None) (sym on))
      (λ (other : x.facts.offset ≡ o → ⊥).
      let off = ne_eqb x.facts.offset o other in
      let here = behind 0 x (omega arith) (omega arith) in
      let none = none_later o xs (λ k d lt. let up = rise 0 (suc k) d (omega arith) (omega (arith, lt)) in omega (arith, up, here, other)) in
      ap (λ (b : Bool). cond b (Some x) (find (has_offset o) xs)) off ∙ none ∙ ap (λ (b : Bool). cond b (Some x) None) (sym off))
      (cases_eq x.facts.offset o)
  node_at_point (x ∷ xs) (suc n) rise before behind =
      ap (λ (b : Bool). cond b (Some x) (find (has_offset o) xs)) (ne_eqb x.facts.offset o (λ same. let lt = before 0 x (omega arith) in omega (arith, same, lt))) ∙
      node_at_point xs n (λ i j d le lt. rise (suc i) (suc j) d (omega (arith, le)) (omega (arith, lt))) (λ k d lt. before (suc k) d (omega (arith, lt))) (λ k d le lt. behind (suc k) d (omega (arith, le)) (omega (arith, lt)))

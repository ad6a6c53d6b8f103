-- What the members of a path give, as it is gathered member by member.
use Rattle.std.proofs.Common.{◌≡◌, ℕ, ◌+◌, ◌<◌, min, List, [], ◌∷◌, ◌++◌, length, map, Option, Some, None, option_map, Result, Ok, Err, refl, sym, ap, ◌∙◌, arith}
use Rattle.std.proofs.lemmas.List.{length-map}
use Rattle.std.specs.Prelude.{Contains, IsOkAnd}
use Rattle.std.specs.Borrow.{Bor}
use Rattle.ix_base.specs.declared.code.TheConstants.{REFERENCE_CHAIN}
use Rattle.ix_base.specs.declared.limits.TheConstants.{MAX_PATH_STEPS}
use Rattle.index_model.specs.Meaning.{at_place}
use Rattle.index_model.specs.Parents.{parent_offset}
use Rattle.index_model.specs.Program.{Program, Located, scope_around}
use Rattle.index_model.specs.Names.{Member, component, scope_path}
use Rattle.parent_resolve.specs.declared.scope.Scope.{Scope}
use Rattle.parent_resolve.specs.declared.members.Step.{Step}
use Rattle.parent_resolve.specs.Followed.{all_entries}
use Rattle.parent_resolve.specs.Scopes.{Passed, IsStep, greatest, part_length, passed_at}
use Rattle.parent_resolve.proofs.Outwards.{Reached, at_start, ends_here, gives_ok, is_over, reaches}

abbrev pub text : Option (Bor (List ℕ)) → Option (List ℕ)
text o = option_map (λ t. t.now) o

map_append : {A B : Type 0} (f : A → B) (xs ys : List A) → map f (xs ++ ys) ≡ map f xs ++ map f ys
map_append f [] ys = refl
map_append {B = B} f (x ∷ xs) ys = ap (λ (zs : List B). f x ∷ zs) (map_append f xs ys)

-- some members of the path around d were passed, and these are the texts that they give
pub record Gathered (p : Program) (d : Located) (texts : List (Option (Bor (List ℕ)))) (around : ℕ) : Type 0 where
  pub scope : Scope
  pub reached : Reached p d scope around
  pub are : map text texts ≡ map component reached.passed

pub none_gathered : (p : Program) (d : Located) (around : ℕ) → Contains (all_entries p) d → parent_offset d ≡ Some around → Gathered p d [] around
unfolding at_start
none_gathered p d around c place = record { scope = record { steps = 0; length = 0 }; reached = at_start p d (record { steps = 0; length = 0 }) around refl refl c place; are = refl }

module _ (p : Program) (d : Located) (texts : List (Option (Bor (List ℕ)))) (around : ℕ) (g : Gathered p d texts around) where
  -- as many members as texts
  pub as_many : g.scope.steps ≡ length texts
  as_many = omega (arith, g.reached.scope.steps, length-map texts text, length-map g.reached.passed component, ap length g.are)

  module _ (m : Located) (up : scope_around g.reached.end ≡ Some m) where
    pub too_many : length texts ≡ MAX_PATH_STEPS → scope_path p d ≡ Err REFERENCE_CHAIN
    too_many full = is_over p d g.scope around g.reached m up (as_many ∙ full)

    module _ (lt : length texts < MAX_PATH_STEPS) (x : Passed) (is : passed_at p m ≡ Ok x) (t : Step) (h : IsStep p t x) where
      few : g.scope.steps < MAX_PATH_STEPS
      few = omega (arith, lt, as_many)

      abbrev part : ℕ
      part = min greatest (part_length (text t.component))

      abbrev next : Scope
      next = record { steps = g.scope.steps + 1; length = min greatest (g.scope.length + part) }

      one_more : map text (texts ++ t.component ∷ []) ≡ map component (g.reached.passed ++ x.member ∷ [])
      one_more =
          map_append text texts (t.component ∷ []) ∙
          ap (λ (cs : List (Option (List ℕ))). cs ++ text t.component ∷ []) g.are ∙
          ap (λ (c : Option (List ℕ)). map component g.reached.passed ++ c ∷ []) h.component ∙
          sym (map_append component g.reached.passed (x.member ∷ []))

      -- the path goes on
      pub gathers : (more : ℕ) → t.around ≡ Some more → Gathered p d (texts ++ t.component ∷ []) more
      gathers more some =
          let r = reaches p d g.scope around g.reached m up few x is t h part refl next refl refl more some in
          record { scope = next; reached = r.0; are = one_more ∙ ap (map component) (sym r.1) }

      -- or ends
      pub gathered : t.around ≡ None → (path : List Member) × (scope_path p d ≡ Ok path) × (map text (texts ++ t.component ∷ []) ≡ map component path)
      gathered none =
          let e = ends_here p d g.scope around g.reached m up few x is t h part refl next refl refl none in
          (g.reached.passed ++ x.member ∷ [], e.0, one_more)

-- the texts answer for the path
pub gives_texts : (items : List (Option (Bor (List ℕ)))) (at : ℕ) (r : Result (List Member) ℕ) (path : List Member) → r ≡ Ok path → (texts : List (Option (Bor (List ℕ)))) → items ≡ texts → map text texts ≡ map component path → IsOkAnd (at_place at r) (λ ms. map text items ≡ map component ms)
gives_texts items at r path is texts own are = gives_ok (λ ms. map text items ≡ map component ms) at r path is (ap (map text) own ∙ are)

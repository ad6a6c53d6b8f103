-- The members that a path passed, and the scopes around what is in them.
use Rattle.std.proofs.Common.{◌≡◌, ℕ, ◌+◌, ◌<◌, ◌≤◌, min, List, [], ◌∷◌, ◌++◌, length-append, Option, Some, None, option_map, Ok, Err, Result, refl, sym, subst, ◌∙◌, arith, inl, inr}
use Rattle.std.specs.Prelude.{IsOkAnd}
use Rattle.std.proofs.lemmas.Bool.Decides.{leb_tells}
use Rattle.ix_base.specs.declared.fault.Fault.{Fault}
use Rattle.index_model.specs.Gives.{Stop}
use Rattle.ix_base.specs.declared.or_memory.OrMemory.TheVariants as stops
use Rattle.ix_base.specs.declared.limits.TheConstants.{MAX_PATH_STEPS}
use Rattle.index_model.specs.Meaning.{at_place}
use Rattle.index_model.specs.Names.{Member, scope_path}
use Rattle.shard_build.specs.Entries.{EntriesOf}
use Rattle.parent_resolve.specs.declared.members.Step.{Step}
use Rattle.parent_resolve.specs.declared.scope.PathMember.{PathMember}
use Rattle.parent_resolve.specs.declared.scope.Scope.{Scope}
use Rattle.parent_resolve.specs.Paths.{AreBefore, EndIn, ForMember, IsBefore, IsScopeAround, first_offset}
use Rattle.parent_resolve.specs.Scopes.{IsScope, IsStep, greatest, part_length, passed_at}
use Rattle.parent_resolve.proofs.Outwards.{at_start, ends_here, ok_and, ok_here, parent_found, reaches, rest_fits}

module _ (e : EntriesOf) where
  -- a step passes a member, behind which the path goes on or ends
  pub passes_member : (around at part : ℕ) (t : Step) → ForMember e around (λ p m. IsOkAnd (at_place at (passed_at p m)) (IsStep p t)) → part ≡ min greatest (part_length (option_map (λ t. t.now) t.component)) → (next : Option ℕ) → t.around ≡ next → IsBefore e (record { offset = around; part = part }) next
  passes_member around at part t step given None is outer s behind few steps length_ p file d dc place =
      let empty : Scope = record { steps = 0; length = 0 } in
      let r = at_start p d empty around refl refl dc place in
      let m = parent_found e.image.file p file r.end around r.there r.place in
      let x = ok_and (IsStep p t) at (passed_at p m.0) (step p file m.0 m.2) in
      let f = ends_here p d empty around r m.0 m.1 (omega arith) x.0 x.1 t x.2 part given s (omega (arith, steps, behind.0)) (omega (arith, length_, behind.1)) is in
      subst (λ (a : Result (List Member) ℕ). IsOkAnd a (IsScope s)) (sym f.0) f.1
  passes_member around at part t step given (Some more) is outer s behind few steps length_ p file d dc place =
      let empty : Scope = record { steps = 0; length = 0 } in
      let one : Scope = record { steps = 1; length = min greatest part } in
      let r = at_start p d empty around refl refl dc place in
      let m = parent_found e.image.file p file r.end around r.there r.place in
      let x = ok_and (IsStep p t) at (passed_at p m.0) (step p file m.0 m.2) in
      let o = (reaches p d empty around r m.0 m.1 (omega arith) x.0 x.1 t x.2 part given one (omega arith) (omega arith) more is).0 in
      let known = ok_here (IsScope outer) (scope_path p o.end) (behind p file o.end o.there o.place) in
      let f = rest_fits p d one more o outer known.0 known.1 known.2 s (omega (arith, few)) (omega (arith, steps)) (omega (arith, length_)) in
      subst (λ (a : Result (List Member) ℕ). IsOkAnd a (IsScope s)) (sym f.0) f.1

  first_of : (xs : List PathMember) (x : PathMember) (next : Option ℕ) → first_offset (xs ++ x ∷ []) next ≡ first_offset xs (Some x.offset)
  first_of [] x next = refl
  first_of (y ∷ ys) x next = refl

  -- one more member behind the others
  pub one_passed : (xs : List PathMember) (x : PathMember) (next : Option ℕ) → AreBefore e xs (Some x.offset) → IsBefore e x next → AreBefore e (xs ++ x ∷ []) next
  one_passed [] x next h here = (here, tt)
  one_passed (y ∷ ys) x next h here = (subst (IsBefore e y) (sym (first_of ys x next)) h.0, one_passed ys x next h.1 here)

  -- and without the last
  pub last_passed : (xs : List PathMember) (x : PathMember) (next : Option ℕ) → AreBefore e (xs ++ x ∷ []) next → AreBefore e xs (Some x.offset) × IsBefore e x next
  last_passed [] x next h = (tt, h.0)
  last_passed (y ∷ ys) x next h =
      let more = last_passed ys x next h.1 in
      ((subst (IsBefore e y) (first_of ys x next) h.0, more.0), more.1)

  -- the scope around what is in the last member, and what is left
  pub taken_in : (xs : List PathMember) (x : PathMember) (outer : Scope) → EndIn e (xs ++ x ∷ []) outer → (s : Scope) → s.steps ≡ outer.steps + 1 → s.length ≡ min greatest (outer.length + x.part) → EndIn e xs s × IsScopeAround e x.offset s
  taken_in xs x outer h s steps length_ =
      let parts = last_passed xs x h.next h.before in
      let few : outer.steps < MAX_PATH_STEPS = omega (arith, h.few, length-append xs (x ∷ [])) in
      let here = parts.1 outer s h.behind few steps length_ in
      (record { next = Some x.offset; before = parts.0; behind = here; few = omega (arith, h.few, steps, length-append xs (x ∷ [])) }, here)

-- where two lengths were joined they fit
pub few_joined : (a b : ℕ) (r : Result Scope Stop) (s : Scope) (f : Fault) → r ≡ Ok s → (MAX_PATH_STEPS < a + b → r ≡ Err (stops.Cause f)) → a + b ≤ MAX_PATH_STEPS
few_joined a b r s f ok long = elim (leb_tells (a + b) MAX_PATH_STEPS) as (λ _. a + b ≤ MAX_PATH_STEPS) [
  | inl small ↦ small.1
  | inr big ↦ (let never : Ok s ≡ Err (stops.Cause f) = sym ok ∙ long big.1 in absurd cc)
]

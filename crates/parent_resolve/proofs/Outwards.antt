-- How far a path was followed outwards, and what is left of it.
use Rattle.std.proofs.Common.{◌≡◌, ℕ, suc, ◌+◌, ◌-◌, ◌<◌, ◌≤◌, min, List, [], ◌∷◌, ◌++◌, append_assoc, length, length-append, Option, Some, None, option_map, Result, Ok, Err, refl, sym, ap, subst, ◌∙◌, arith, inl, inr}
use Rattle.std.specs.Prelude.{Contains, IsOkAnd}
use Rattle.std.proofs.lemmas.Bool.Decides.{leb_tells}
use Rattle.std.proofs.lemmas.Option.{same_Some}
use Rattle.ix_base.specs.declared.code.TheConstants.{REFERENCE_CHAIN}
use Rattle.ix_base.specs.declared.limits.TheConstants.{MAX_PATH_STEPS}
use Rattle.ix_base.specs.declared.fault.Fault.{Fault}
use Rattle.index_model.specs.Gives.{Stop}
use Rattle.ix_base.specs.declared.or_memory.OrMemory.TheVariants as stops
use Rattle.index_model.specs.Meaning.{◌>>=◌, at_place, fault}
use Rattle.index_model.specs.Gives.{GivesFor, StopsAs}
use Rattle.index_model.specs.Faults.{program_of}
use Rattle.index_model.specs.Parents.{parent_offset}
use Rattle.index_model.specs.Program.{Program, Located, scope_around, item_with_offset}
use Rattle.index_model.specs.Names.{Member, component, step, path_from, scope_path}
use Rattle.parent_resolve.specs.declared.scope.Scope.{Scope}
use Rattle.parent_resolve.specs.declared.members.Step.{Step}
use Rattle.parent_resolve.specs.Followed.{all_entries}
use Rattle.parent_resolve.specs.Scopes.{Passed, IsAround, IsScope, IsStep, greatest, part_length, prefix_length, passed_at}
use Rattle.parent_resolve.proofs.Entries.{entry_found, scope_there}
use Rattle.parent_resolve.proofs.PathSteps.{beyond, onwards_in, within, fits, too_long, none_left, one_left, at_root, in_steps}

-- ---- meanings

pub ok_and : {A : Type 0} (P : A → Type 0) (at : ℕ) (r : Result A ℕ) → IsOkAnd (at_place at r) P → (x : A) × (r ≡ Ok x) × P x
ok_and P at (Ok x) h = (x, refl, h)
ok_and P at (Err e) h = absurd h

pub gives_ok : {A : Type 0} (P : A → Type 0) (at : ℕ) (r : Result A ℕ) (x : A) → r ≡ Ok x → P x → IsOkAnd (at_place at r) P
gives_ok P at r x is h = subst (λ (s : Result _ ℕ). IsOkAnd (at_place at s) P) (sym is) h

-- a call stops as another did, where the meaning has each code of the other's
pub stops_as : {A B : Type 0} (stop : Stop) (at : ℕ) (r : Result A ℕ) (s : Result B ℕ) → StopsAs stop (at_place at r) → ((code : ℕ) → r ≡ Err code → s ≡ Err code) → StopsAs stop (at_place at s)
stops_as stops.Memory at r s h more = tt
stops_as (stops.Cause f) at (Ok x) s h more = absurd cc
stops_as {B = B} (stops.Cause f) at (Err code) s h more =
    let same : fault code at ≡ f = cc in
    ap (λ (t : Result B ℕ). at_place at t) (more code refl) ∙ ap {B = Result B Fault} (λ (g : Fault). Err g) same

-- ---- scopes

prefix_append : (ms ns : List Member) → prefix_length (ms ++ ns) ≡ prefix_length ms + prefix_length ns
prefix_append [] ns = omega arith
prefix_append (m ∷ ms) ns = omega (arith, prefix_append ms ns)

pub none_passed : (s : Scope) → s.steps ≡ 0 → s.length ≡ 0 → IsScope s []
none_passed s steps length_ = record { steps = steps; length = omega (arith, length_) }

-- the paths one behind the other
pub scopes_joined : (a b s : Scope) (ms ns : List Member) → IsScope a ms → IsScope b ns → s.steps ≡ a.steps + b.steps → s.length ≡ min greatest (a.length + b.length) → IsScope s (ms ++ ns)
scopes_joined a b s ms ns ha hb steps length_ = record {
  steps = omega (arith, steps, ha.steps, hb.steps, length-append ms ns);
  length = omega (arith, length_, ha.length, hb.length, prefix_append ms ns);
}

pub scope_with : (a s : Scope) (part : ℕ) (ms : List Member) (m : Member) → IsScope a ms → part ≡ min greatest (part_length (component m)) → s.steps ≡ a.steps + 1 → s.length ≡ min greatest (a.length + part) → IsScope s (ms ++ m ∷ [])
scope_with a s part ms m ha hp steps length_ = record {
  steps = omega (arith, steps, ha.steps, length-append ms (m ∷ []));
  length = omega (arith, length_, ha.length, hp, prefix_append ms (m ∷ []));
}

-- ---- what is left

abbrev behind : List Member → Result (List Member) ℕ → Result (List Member) ℕ
behind ms r = r >>= λ others. Ok (ms ++ others)

pub behind_none : (r : Result (List Member) ℕ) → r ≡ behind [] r
behind_none (Ok ms) = refl
behind_none (Err e) = refl

behind_one : (ms : List Member) (m : Member) (r : Result (List Member) ℕ) → behind ms (r >>= λ others. Ok (m ∷ others)) ≡ behind (ms ++ m ∷ []) r
behind_one ms m (Ok others) = ap {B = Result (List Member) ℕ} (λ (xs : List Member). Ok xs) (sym (append_assoc ms (m ∷ []) others))
behind_one ms m (Err e) = refl

-- some members of the path around d were passed, and the path goes on around an entry whose lexical parent is at the offset
pub record Reached (p : Program) (d : Located) (s : Scope) (around : ℕ) : Type 0 where
  pub passed : List Member
  pub scope : IsScope s passed
  pub left : ℕ
  pub sum : left + length passed ≡ MAX_PATH_STEPS
  pub end : Located
  pub there : Contains (all_entries p) end
  pub place : parent_offset end ≡ Some around
  pub is : scope_path p d ≡ behind passed (path_from left p end)

unfoldable pub at_start : (p : Program) (d : Located) (s : Scope) (around : ℕ) → s.steps ≡ 0 → s.length ≡ 0 → Contains (all_entries p) d → parent_offset d ≡ Some around → Reached p d s around
at_start p d s around steps length_ c place = record {
  passed = [];
  scope = none_passed s steps length_;
  left = MAX_PATH_STEPS;
  sum = omega arith;
  end = d;
  there = c;
  place = place;
  is = behind_none (scope_path p d);
}

-- the lexical parent of an entry of the program stands at its offset
pub parent_found : (f : List ℕ) (p : Program) → program_of f ≡ Ok p → (e : Located) (around : ℕ) → Contains (all_entries p) e → parent_offset e ≡ Some around → (m : Located) × (scope_around e ≡ Some m) × (item_with_offset p around ≡ Some m)
parent_found f p file e around c place = by (scope_around e) refl place
  where
    by : (o : Option Located) → scope_around e ≡ o → option_map (λ (m : Located). m.item.at) o ≡ Some around → (m : Located) × (scope_around e ≡ Some m) × (item_with_offset p around ≡ Some m)
    by None is h = absurd cc
    by (Some m) is h =
        let same = same_Some m.item.at around h in
        (m, is, ap (item_with_offset p) (sym same) ∙ entry_found f p file m (scope_there f p file e c m is).0)

pub no_parent : (e : Located) → parent_offset e ≡ None → scope_around e ≡ None
no_parent e none = by (scope_around e) refl none
  where
    by : (o : Option Located) → scope_around e ≡ o → option_map (λ (m : Located). m.item.at) o ≡ None → scope_around e ≡ None
    by None is h = is
    by (Some m) is h = absurd cc

module _ (p : Program) (d : Located) (s : Scope) (around : ℕ) (r : Reached p d s around) (m : Located) (up : scope_around r.end ≡ Some m) where
  -- the path where a step is left
  goes_on : (n : ℕ) → r.left ≡ suc n → scope_path p d ≡ behind r.passed (passed_at p m >>= beyond (onwards_in p n))
  goes_on n left = r.is ∙ ap (λ (k : ℕ). behind r.passed (path_from k p r.end)) left ∙ ap (behind r.passed) (one_left p n r.end m up)

  passes : (n : ℕ) → r.left ≡ suc n → (x : Passed) → passed_at p m ≡ Ok x → scope_path p d ≡ behind (r.passed ++ x.member ∷ []) (step x.end (onwards_in p n))
  passes n left x is = goes_on n left ∙ ap (λ (t : Result Passed ℕ). behind r.passed (t >>= beyond (onwards_in p n))) is ∙ behind_one r.passed x.member (step x.end (onwards_in p n))

  one_is_left : s.steps < MAX_PATH_STEPS → r.left ≡ suc (r.left - 1)
  one_is_left lt = omega (arith, lt, r.sum, r.scope.steps)

  -- no step is left
  pub is_over : s.steps ≡ MAX_PATH_STEPS → scope_path p d ≡ Err REFERENCE_CHAIN
  is_over full =
      let left : r.left ≡ 0 = omega (arith, full, r.sum, r.scope.steps) in
      r.is ∙ ap (λ (k : ℕ). behind r.passed (path_from k p r.end)) left ∙ ap (behind r.passed) (none_left p r.end m up)

  -- the member's fault is the path's
  pub is_wrong : s.steps < MAX_PATH_STEPS → (code : ℕ) → passed_at p m ≡ Err code → scope_path p d ≡ Err code
  is_wrong lt code is = goes_on (r.left - 1) (one_is_left lt) ∙ ap (λ (t : Result Passed ℕ). behind r.passed (t >>= beyond (onwards_in p (r.left - 1)))) is

  module _ (lt : s.steps < MAX_PATH_STEPS) (x : Passed) (is : passed_at p m ≡ Ok x) (t : Step) (h : IsStep p t x) (part : ℕ) (given : part ≡ min greatest (part_length (option_map (λ t. t.now) t.component))) (next : Scope) (steps : next.steps ≡ s.steps + 1) (length_ : next.length ≡ min greatest (s.length + part)) where
    wider : IsScope next (r.passed ++ x.member ∷ [])
    wider = scope_with s next part r.passed x.member r.scope (given ∙ ap (λ (o : Option (List ℕ)). min greatest (part_length o)) h.component) steps length_

    -- the path ends with the member
    pub ends_here : t.around ≡ None → (scope_path p d ≡ Ok (r.passed ++ x.member ∷ [])) × IsScope next (r.passed ++ x.member ∷ [])
    ends_here none = (passes (r.left - 1) (one_is_left lt) x is ∙ ap (behind (r.passed ++ x.member ∷ [])) (over x.end h.around) ∙ whole, wider)
      where
        over : (end : Option Located) → IsAround p t.around end → step end (onwards_in p (r.left - 1)) ≡ Ok []
        over None a = refl
        over (Some e) a = at_root p (r.left - 1) e (no_parent e (sym a.1 ∙ none))

        whole : behind (r.passed ++ x.member ∷ []) (Ok []) ≡ Ok (r.passed ++ x.member ∷ [])
        whole = ap {B = Result (List Member) ℕ} (λ (xs : List Member). Ok xs) (append_none (r.passed ++ x.member ∷ []))
          where
            append_none : (xs : List Member) → xs ++ [] ≡ xs
            append_none [] = refl
            append_none (y ∷ ys) = ap (λ (zs : List Member). y ∷ zs) (append_none ys)

    -- it goes on around the member's chain's end
    pub reaches : (more : ℕ) → t.around ≡ Some more → (onwards : Reached p d next more) × (onwards.passed ≡ r.passed ++ x.member ∷ [])
    reaches more some = by x.end refl h.around
      where
        by : (end : Option Located) → x.end ≡ end → IsAround p t.around end → (onwards : Reached p d next more) × (onwards.passed ≡ r.passed ++ x.member ∷ [])
        by None e a = let never : None ≡ Some more = sym a ∙ some in absurd cc
        by (Some end) e a = (
          record {
            passed = r.passed ++ x.member ∷ [];
            scope = wider;
            left = r.left - 1;
            sum = omega (arith, lt, r.sum, r.scope.steps, length-append r.passed (x.member ∷ []));
            end = end;
            there = a.0;
            place = sym a.1 ∙ some;
            is = passes (r.left - 1) (one_is_left lt) x is ∙ ap (λ (o : Option Located). behind (r.passed ++ x.member ∷ []) (step o (onwards_in p (r.left - 1)))) e;
          },
          refl,
        )

module _ (p : Program) (d : Located) (s : Scope) (around : ℕ) (r : Reached p d s around) (outer : Scope) (known : List Member) (is : scope_path p r.end ≡ Ok known) (h : IsScope outer known) where
  rest : path_from r.left p r.end ≡ within p r.left known
  rest = in_steps p MAX_PATH_STEPS r.end known is r.left

  -- a known path is the rest of this one, if that doesn't have too many steps
  pub rest_fits : (next : Scope) → s.steps + outer.steps ≤ MAX_PATH_STEPS → next.steps ≡ s.steps + outer.steps → next.length ≡ min greatest (s.length + outer.length) → (scope_path p d ≡ Ok (r.passed ++ known)) × IsScope next (r.passed ++ known)
  rest_fits next le steps length_ =
      let le_left : length known ≤ r.left = omega (arith, le, r.sum, r.scope.steps, h.steps) in
      (r.is ∙ ap (behind r.passed) (rest ∙ fits p r.left known le_left), scopes_joined s outer next r.passed known r.scope h steps length_)

  pub rest_is_long : MAX_PATH_STEPS < s.steps + outer.steps → scope_path p d ≡ Err REFERENCE_CHAIN
  rest_is_long gt =
      let long : r.left < length known = omega (arith, gt, r.sum, r.scope.steps, h.steps) in
      r.is ∙ ap (behind r.passed) (rest ∙ too_long p r.left known long)

  -- so both together answer, where the steps are tested
  pub joined_gives : (at : ℕ) (result : Result Scope Stop) (next : Scope) → next.steps ≡ s.steps + outer.steps → next.length ≡ min greatest (s.length + outer.length) → (s.steps + outer.steps ≤ MAX_PATH_STEPS → result ≡ Ok next) → (MAX_PATH_STEPS < s.steps + outer.steps → result ≡ Err (stops.Cause (fault REFERENCE_CHAIN at))) → GivesFor IsScope result (at_place at (scope_path p d))
  joined_gives at result next steps length_ few many = elim (leb_tells (s.steps + outer.steps) MAX_PATH_STEPS) as (λ _. GivesFor IsScope result (at_place at (scope_path p d))) [
    | inl small ↦
        let f = rest_fits next small.1 steps length_ in
        subst (λ (a : Result Scope Stop). GivesFor IsScope a (at_place at (scope_path p d))) (sym (few small.1)) (gives_ok (IsScope next) at (scope_path p d) (r.passed ++ known) f.0 f.1)
    | inr big ↦ subst (λ (a : Result Scope Stop). GivesFor IsScope a (at_place at (scope_path p d))) (sym (many big.1)) (ap (λ (t : Result (List Member) ℕ). at_place at t) (rest_is_long big.1))
  ]

pub ok_here : {A : Type 0} (P : A → Type 0) (r : Result A ℕ) → IsOkAnd r P → (x : A) × (r ≡ Ok x) × P x
ok_here P (Ok x) h = (x, refl, h)
ok_here P (Err e) h = absurd h

-- The scope around what is in an entry whose references were followed.
use Rattle.std.proofs.Common.{◌≡◌, ℕ, ◌+◌, ◌<◌, min, true, List, Option, Some, None, option_map, Result, Ok, refl, sym, ap, subst, ◌∙◌}
use Rattle.std.specs.Prelude.{Contains, IfSome, IsOkAnd, is_some}
use Rattle.std.specs.Borrow.{Bor}
use Rattle.std.proofs.lemmas.Option.{same_Some}
use Rattle.ix_base.specs.declared.limits.TheConstants.{MAX_PATH_STEPS}
use Rattle.index_model.specs.declared.shard.Node.{Node}
use Rattle.index_model.specs.Chains.{name_with}
use Rattle.index_model.specs.Faults.{program_of}
use Rattle.index_model.specs.Meaning.{◌>>=◌, at_place}
use Rattle.index_model.specs.Names.{component, scope_path}
use Rattle.index_model.specs.Program.{Program, Located, item_with_offset}
use Rattle.index_model.specs.Sections.{Section}
use Rattle.index_model.specs.ShardParts.{IsNodeOf}
use Rattle.index_model.proofs.Meanings.{same_ok}
use Rattle.shard_build.specs.Entries.{EntriesOf}
use Rattle.parent_resolve.specs.declared.members.Step.{Step}
use Rattle.parent_resolve.specs.declared.scope.Scope.{Scope}
use Rattle.parent_resolve.specs.declared.traced.Traced.{Traced}
use Rattle.parent_resolve.specs.Followed.{ForEntry, HasEntry, Named, all_entries, followed_of}
use Rattle.parent_resolve.specs.Paths.{ForEnd, ForMember, IsBehind, IsScopeAround}
use Rattle.parent_resolve.specs.Scopes.{IsScope, IsStep, followed_at, greatest, part_length, passed_at}
use Rattle.parent_resolve.specs.Traced.{IsTraced}
use Rattle.parent_resolve.proofs.Entries.{entry_found}
use Rattle.parent_resolve.proofs.NodeLaws.{node_parts}
use Rattle.parent_resolve.proofs.Outwards.{gives_ok, ok_and}
use Rattle.parent_resolve.proofs.PassedLaws.{passes_member}
use Rattle.parent_resolve.proofs.Steps.{passed_below, passed_named}

module _ (p : Program) (d : Located) (t : Traced) (n : Named) (is : followed_of p d ≡ Ok n) (h : IsTraced p d t n) (part : Option (Bor (List ℕ))) (given : option_map (λ t. t.now) part ≡ component (record { entry = d; name = name_with d (option_map (λ t. t.now) t.spelled) })) where
  -- the step over an entry that was followed
  abbrev step : Step
  step = record { component = part; around = t.around }

  traced_gives : (followed_at p d ≡ Ok (passed_named p d n)) × IsStep p step (passed_named p d n)
  unfolding followed_at
  traced_gives = (
    ap (λ (r : Result Named ℕ). r >>= λ n. Ok (passed_named p d n)) is,
    record {
      component = given ∙ ap (λ (o : Option (List ℕ)). component (record { entry = d; name = name_with d o })) h.spelled;
      around = (h.there, h.around);
    },
  )

module _ (e : EntriesOf) (node : Node) (own : HasEntry e node) where
  -- the entry at the offset of the node is that of the node
  stands : (p : Program) → program_of e.image.file ≡ Ok p → (m : Located) → item_with_offset p node.offset ≡ Some m → Contains (all_entries p) m × IsNodeOf p.sections node m
  stands p file m found =
      let same : own.program ≡ p = same_ok own.program p (sym own.file ∙ file) in
      let there = subst (λ (q : Program). Contains (all_entries q) own.entry) same own.there in
      let is = subst (λ (q : Program). IsNodeOf q.sections node own.entry) same own.is in
      let at : item_with_offset p node.offset ≡ Some own.entry = ap (item_with_offset p) (node_parts p.sections node own.entry is).0 ∙ entry_found e.image.file p file own.entry there in
      let one : own.entry ≡ m = same_Some own.entry m (sym at ∙ found) in
      (subst (Contains (all_entries p)) one there, subst (IsNodeOf p.sections node) one is)

  module _ (below : is_some node.parent ≡ true) (t : Traced) (traced : ForEntry e node (λ p d. IsOkAnd (at_place node.offset (followed_of p d)) (IsTraced p d t))) (component_ : Option (Bor (List ℕ))) (given : (ss : List Section) (d : Located) → IsNodeOf ss node d → option_map (λ t. t.now) component_ ≡ component (record { entry = d; name = name_with d (option_map (λ t. t.now) t.spelled) })) where
    abbrev over : Step
    over = record { component = component_; around = t.around }

    passed : ForMember e node.offset (λ p m. IsOkAnd (at_place node.offset (passed_at p m)) (IsStep p over))
    passed p file m found =
        let s = stands p file m found in
        let n = ok_and (IsTraced p m t) node.offset (followed_of p m) (traced p file m s.0 s.1) in
        let g = traced_gives p m t n.0 n.1 n.2 component_ (given p.sections m s.1) in
        let down = passed_below e.image.file p file m s.0 (ap is_some (sym (node_parts p.sections node m s.1).1) ∙ below) in
        gives_ok (IsStep p over) node.offset (passed_at p m) (passed_named p m n.0) (down ∙ g.0) g.1

    -- so the scope around what is in it is that around its chain's end and the entry itself
    pub entered : (around : ℕ) → t.around ≡ Some around → (scope : Scope) → ForEnd e t.around (λ p d. IsOkAnd (at_place node.offset (scope_path p d)) (IsScope scope)) → (part : ℕ) → part ≡ min greatest (part_length (option_map (λ t. t.now) component_)) →
        (next : Scope) → scope.steps < MAX_PATH_STEPS → next.steps ≡ scope.steps + 1 → next.length ≡ min greatest (scope.length + part) → IsScopeAround e node.offset next
    entered around is scope outer part size next few steps length_ =
        let behind : IsBehind e (Some around) scope = λ p file d dc place.
        let o = ok_and (IsScope scope) node.offset (scope_path p d) (outer p file d dc (place ∙ sym is)) in
        subst (λ (r : Result _ ℕ). IsOkAnd r (IsScope scope)) (sym o.1) o.2
        in
        passes_member e node.offset node.offset part over passed size (Some around) is scope next behind few steps length_

-- what is there is a value
pub is_given : {A : Type 0} (o : Option A) → is_some o ≡ true → (x : A) × (o ≡ Some x)
is_given None off = absurd cc
is_given (Some x) on = (x, refl)

pub if_some : {A : Type 0} (P Q : A → Type 0) (o : Option A) → ((x : A) → P x → Q x) → IfSome o P → IfSome o Q
if_some P Q None f h = h
if_some P Q (Some x) f h = f x h

-- What is known of one member of a scope path.
use Rattle.std.proofs.Common.{◌≡◌, ℕ, Bool, true, false, cond, eqb, ◌&&◌, ◌||◌, List, Option, Some, None, option_map, Result, Ok, Err, refl, sym, ap, subst, ◌∙◌, arith, ⊎_elim}
use Rattle.std.specs.Prelude.{Contains, is_some}
use Rattle.std.specs.Borrow.{Bor}
use Rattle.std.proofs.lemmas.Bool.{true≢false, eq-eqb, ne_eqb, cases_eq}
use Rattle.index_model.specs.declared.shard.Node.{Node}
use Rattle.index_model.specs.Meaning.{◌>>=◌}
use Rattle.index_model.specs.Faults.{program_of}
use Rattle.index_model.specs.Parents.{parent_offset}
use Rattle.index_model.specs.Program.{Program, Located}
use Rattle.index_model.specs.Chains.{chain_end, name_with}
use Rattle.index_model.specs.Names.{component}
use Rattle.index_model.specs.Attributes.{has_enum_class}
use Rattle.index_model.specs.Sections.{Section}
use Rattle.index_model.specs.Tags.{namespace, is_record_tag, enumeration}
use Rattle.shard_build.specs.Entries.{IsNodeIn}
use Rattle.index_model.specs.ShardParts.{IsNodeOf}
use Rattle.parent_resolve.specs.declared.members.Step.{Step}
use Rattle.parent_resolve.specs.declared.traced.Traced.{Traced}
use Rattle.parent_resolve.specs.Followed.{all_entries, followed_of, Named}
use Rattle.parent_resolve.specs.Scopes.{Passed, IsStep, followed_at, passed_at, root_passed}
use Rattle.parent_resolve.specs.Traced.{IsTraced}
use Rattle.parent_resolve.proofs.Entries.{home_in, unit_in_order}

-- the node that stands for what is at an offset
pub node_there : (ss : List Section) (o : Option Node) (q : Option Located) (n : Node) (m : Located) → IsNodeIn ss o q → o ≡ Some n → q ≡ Some m → IsNodeOf ss n m
node_there ss o q n m h own found = subst (λ (r : Option Located). IsNodeIn ss (Some n) r) found (subst (λ (r : Option Node). IsNodeIn ss r q) own h)

-- there is a node where there is an entry
pub nothing_there : (ss : List Section) (o : Option Node) (q : Option Located) (m : Located) → IsNodeIn ss o q → o ≡ None → q ≡ Some m → ⊥
nothing_there ss o q m h own found = subst (λ (r : Option Located). IsNodeIn ss None r) found (subst (λ (r : Option Node). IsNodeIn ss r q) own h)

-- an entry that isn't a root has a parent, and a root has none
module _ (f : List ℕ) (p : Program) (file : program_of f ≡ Ok p) (d : Located) (c : Contains (all_entries p) d) where
  pub root_alone : d.item.depth ≡ 0 → parent_offset d ≡ None
  root_alone zero_ =
      let h = home_in p d c in
      ap (option_map (λ (e : Located). e.item.at)) (ap (option_map (λ e. record { home = d.home; item = e })) ((unit_in_order f p file d.home h.0).root d.item h.1 zero_).1)

  pub others_have : parent_offset d ≡ None → d.item.depth ≡ 0
  others_have none = ⊎_elim
      (λ (top : d.item.depth ≡ 0). top)
      (λ (below : d.item.depth ≡ 0 → ⊥).
      let h = home_in p d c in
      let m = (unit_in_order f p file d.home h.0).parents d.item h.1 (omega (arith, below)) in
      let there = ap (option_map (λ (e : Located). e.item.at)) (ap (option_map (λ e. record { home = d.home; item = e })) m.is) in
      let never : Some m.parent.at ≡ None = sym there ∙ none in
      absurd cc)
      (cases_eq d.item.depth 0)

  -- what is passed at a root
  pub passed_root : parent_offset d ≡ None → passed_at p d ≡ Ok (root_passed d)
  unfolding passed_at
  passed_root none = ap (λ (b : Bool). cond b (Ok (root_passed d)) (followed_at p d)) (eq-eqb d.item.depth 0 (others_have none))

  -- and elsewhere
  pub passed_below : is_some (parent_offset d) ≡ true → passed_at p d ≡ followed_at p d
  unfolding passed_at
  passed_below some = ap (λ (b : Bool). cond b (Ok (root_passed d)) (followed_at p d)) (ne_eqb d.item.depth 0 (λ top. true≢false (sym some ∙ ap is_some (root_alone top))))

pub root_step : (p : Program) (d : Located) (s : Step) → s.component ≡ None → s.around ≡ None → component (record { entry = d; name = None }) ≡ None → IsStep p s (root_passed d)
root_step p d s own around none = record { component = ap (option_map (λ t. t.now)) own ∙ sym none; around = around }

pub root_gives_none : (d : Located) → component (record { entry = d; name = None }) ≡ None
unfolding component
root_gives_none d = by (eqb d.item.tag namespace || is_record_tag d.item.tag || (eqb d.item.tag enumeration && has_enum_class d.item))
  where
    nothing : Option (List ℕ)
    nothing = None

    by : (b : Bool) → cond b nothing nothing ≡ nothing
    by true = refl
    by false = refl

module _ (p : Program) (d : Located) where
  abbrev pub passed_named : Named → Passed
  passed_named n = record { member = record { entry = d; name = name_with d n.spelled }; end = Some (chain_end d n.chain) }

  pub followed_wrong : (code : ℕ) → followed_of p d ≡ Err code → followed_at p d ≡ Err code
  unfolding followed_at
  followed_wrong code is = ap (λ (r : Result Named ℕ). r >>= λ n. Ok (passed_named n)) is

  pub followed_gives : (f : Traced) (n : Named) → followed_of p d ≡ Ok n → IsTraced p d f n → (part : Option (Bor (List ℕ))) → option_map (λ t. t.now) part ≡ component (record { entry = d; name = name_with d (option_map (λ t. t.now) f.spelled) }) →
      (s : Step) → s.component ≡ part → s.around ≡ f.around → (followed_at p d ≡ Ok (passed_named n)) × IsStep p s (passed_named n)
  unfolding followed_at
  followed_gives f n is h part given s own around = (
    ap (λ (r : Result Named ℕ). r >>= λ n. Ok (passed_named n)) is,
    record {
      component = ap (option_map (λ t. t.now)) own ∙ given ∙ ap (λ (o : Option (List ℕ)). component (record { entry = d; name = name_with d o })) h.spelled;
      around = (h.there, around ∙ h.around);
    },
  )

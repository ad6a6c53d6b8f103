-- What stands around an item of a file is an item of it, found again by its offset.
use Rattle.std.proofs.Common.{◌≡◌, ℕ, zero, suc, ◌+◌, Bool, true, false, cond, eqb, ltb, not, ◌&&◌, ◌||◌, List, [], ◌∷◌, map, filter, Option, Some, None, Ok, refl, sym, ap, subst, ◌∙◌, ⊎_elim}
use Rattle.std.specs.Prelude.{Contains, filter_map, option_and_then}
use Rattle.std.specs.Option.{option_or}
use Rattle.std.specs.List.{AllZip, cons_option}
use Rattle.std.proofs.lemmas.Option.{same_Some}
use Rattle.common_laws.proofs.Members.{of_filter, last_member}
use Rattle.common_laws.proofs.Options.{of_option_map}
use Rattle.ix_base.specs.declared.limits.TheConstants.{MAX_CHAIN_HOPS}
use Rattle.index_model.specs.Attributes.{Reference}
use Rattle.index_model.specs.Chains.{first}
use Rattle.index_model.specs.Faults.{program_of}
use Rattle.index_model.specs.Program.{Program, Walked, Located, items_of, scope_around, item_with_offset}
use Rattle.index_model.specs.References.{target_of}
use Rattle.index_model.specs.Tags.{subprogram}
use Rattle.index_model.specs.Walk.{Item, parent_of}
use Rattle.index_model.proofs.Located.{at_home}
use Rattle.shard_build.proofs.OnePlace.{home_of, item_is_at}
use Rattle.gdb_entries.specs.declared.language.LanguageClass.{LanguageClass}
use Rattle.gdb_entries.specs.Chains.{facts_of, origin_of, next_of, with_others, targets_from, targets_of}
use Rattle.gdb_entries.specs.Classes.{is_c}
use Rattle.gdb_entries.specs.Owners.{class_read}
use Rattle.gdb_entries.specs.Reached.{Reach, is_inside, is_seen_from, is_open_from, below, reach_under, reach_at}
use Rattle.gdb_entries.specs.Rules.{gives_scope_alone}
use Rattle.gdb_entries.specs.Scopes.{around_in, around_by, around_target, is_open_by, open_or, open_around_at, open_around, scope_in_place}
use Rattle.gdb_scopes.specs.Places.{offset_of, IsAt}

-- ---- items of a unit

-- an item of the unit
pub record StandsIn (w : Walked) (e : Located) : Type 0 where
  pub home : e.home ≡ w
  pub member : Contains (items_of w) e.item

parent_in : (d e : Located) → scope_around d ≡ Some e → StandsIn d.home e
parent_in d e is =
    let x = of_option_map (at_home d.home) (parent_of (items_of d.home) d.item) e is in
    let early : Item → Bool = λ (y : Item). ltb y.at d.item.at && eqb (y.depth + 1) d.item.depth in
    let m : Contains (filter early (items_of d.home)) x.0 = ⊎_elim
    (λ (none : None ≡ Some x.0). absurd (cc))
    (λ (c : Contains (filter early (items_of d.home)) x.0). c)
    (last_member None (filter early (items_of d.home)) x.0 x.1) in
    record {
      home = ap (λ (y : Located). y.home) (sym x.2);
      member = subst (Contains (items_of d.home)) (ap (λ (y : Located). y.item) x.2) (of_filter early (items_of d.home) x.0 m).0;
    }

further : (w : Walked) (d e : Located) → d.home ≡ w → StandsIn d.home e → StandsIn w e
further w d e home h = subst (λ (v : Walked). StandsIn v e) home h

module _ (p : Program) (class : LanguageClass) where
  -- the open item around what stands in an item is that item or stands around it
  around_below : (w : Walked) (r : Option Reach) (x e : Located) → StandsIn w x → (around_in r ≡ Some e → StandsIn w e) → around_in (below p class r x) ≡ Some e → StandsIn w e
  unfolding below
  around_below w r x e own outer is = by (is_open_from p class r x) (is_inside r && not (is_seen_from r x)) is
    where
      by : (o g : Bool) → around_in (cond o (Some (record { around = Some x; inside = is_inside r || eqb x.item.tag subprogram })) (cond g r None)) ≡ Some e → StandsIn w e
      by true g h = subst (StandsIn w) (same_Some x e h) own
      by false true h = outer h
      by false false h = absurd (cc)

  reach_in : (n : ℕ) (d e : Located) → around_in (reach_at p class n d) ≡ Some e → StandsIn d.home e
  unfolding reach_at
  reach_in zero d e is = absurd (cc)
  reach_in (suc n) d e is = by (λ x r. reach_in n x e r) (scope_around d) refl is
    where
      at_depth : (x : Located) → StandsIn d.home x → (around_in (reach_at p class n x) ≡ Some e → StandsIn x.home e) → (b : Bool) →
          around_in (cond b (Some (record { around = None; inside = false })) (below p class (reach_at p class n x) x)) ≡ Some e → StandsIn d.home e
      at_depth x own outer true k = absurd (cc)
      at_depth x own outer false k = around_below d.home (reach_at p class n x) x e own (λ r. further d.home x e own.home (outer r)) k

      by : ((x : Located) → around_in (reach_at p class n x) ≡ Some e → StandsIn x.home e) → (o : Option Located) → scope_around d ≡ o → around_in (reach_under p class o (λ x. reach_at p class n x)) ≡ Some e → StandsIn d.home e
      by outer None up h = absurd (cc)
      by outer (Some x) up h = at_depth x (parent_in d x up) (outer x) (eqb x.item.depth 0) h

  -- the open item around an item to which gdb comes stands in its unit
  pub around_inside : (d e : Located) → around_by p (Some class) d ≡ Some e → StandsIn d.home e
  around_inside d e is = reach_in d.item.depth d e is

module _ (p : Program) where
  open_in : (n : ℕ) (d e : Located) → open_around_at p n d ≡ Some e → StandsIn d.home e
  unfolding open_around_at
  open_in zero d e is = absurd (cc)
  open_in (suc n) d e is = by (λ x k. open_in n x e k) (scope_around d) refl is
    where
      at_item : (x : Located) → StandsIn d.home x → (open_around_at p n x ≡ Some e → StandsIn x.home e) → (b : Bool) → cond b (Some x) (open_around_at p n x) ≡ Some e → StandsIn d.home e
      at_item x own outer true k = subst (StandsIn d.home) (same_Some x e k) own
      at_item x own outer false k = further d.home x e own.home (outer k)

      by : ((x : Located) → open_around_at p n x ≡ Some e → StandsIn x.home e) → (o : Option Located) → scope_around d ≡ o → open_or p o (λ x. open_around_at p n x) ≡ Some e → StandsIn d.home e
      by outer None up h = absurd (cc)
      by outer (Some x) up h = at_item x (parent_in d x up) (outer x) (is_open_by p (class_read p x.home) x) h

  -- so does the innermost open item around any
  pub open_inside : (d e : Located) → open_around p d ≡ Some e → StandsIn d.home e
  open_inside d e is = open_in d.item.depth d e is

-- ---- items of a file

module _ (f : List ℕ) (p : Program) (is : program_of f ≡ Ok p) where
  -- an item of a unit of the file stands at its offset
  pub stands_there : (w : Walked) → Contains p.walks w → (e : Located) → StandsIn w e → IsAt p e.item.at e
  stands_there w wc e h = item_is_at f p is w wc e.item h.member e.item.at refl ∙ ap (λ (v : Walked). Some (at_home v e.item)) (sym h.home)

  module _ (o : ℕ) (d : Located) (here : IsAt p o d) where
    pub home_there : Contains p.walks d.home
    home_there = (home_of f p is o d here).0

    pub around_there : (class : Option LanguageClass) (e : Located) → around_by p class d ≡ Some e → IsAt p e.item.at e
    around_there None e h = absurd (cc)
    around_there (Some class) e h = stands_there d.home home_there e (around_inside p class d e h)

    pub open_there : (e : Located) → open_around p d ≡ Some e → IsAt p e.item.at e
    open_there e h = stands_there d.home home_there e (open_inside p d e h)

    pub own_there : IsAt p d.item.at d
    own_there = subst (λ (n : ℕ). IsAt p n d) (sym (home_of f p is o d here).2) here

  -- ---- the targets of a chain

  target_there : (d e : Located) → next_of p d ≡ Some e → IsAt p e.item.at e
  unfolding next_of
  target_there d e h = by (origin_of d.item) h
    where
      at : (o : Option ℕ) → option_and_then (item_with_offset p) o ≡ Some e → IsAt p e.item.at e
      at None k = absurd (cc)
      at (Some n) k = own_there n e k

      by : (r : Option Reference) → option_and_then (λ (x : Reference). option_and_then (item_with_offset p) (target_of p.sections d.home x)) r ≡ Some e → IsAt p e.item.at e
      by None k = absurd (cc)
      by (Some x) k = at (target_of p.sections d.home x) k

  targets_there : (n : ℕ) (d : Located) → AllZip (IsAt p) (map offset_of (targets_from n p d)) (targets_from n p d)
  unfolding targets_from
  targets_there zero d = tt
  targets_there (suc n) d = by (λ e. targets_there n e) (next_of p d) refl
    where
      by : ((e : Located) → AllZip (IsAt p) (map offset_of (targets_from n p e)) (targets_from n p e)) → (o : Option Located) → next_of p d ≡ o → AllZip (IsAt p) (map offset_of (with_others o (λ e. targets_from n p e))) (with_others o (λ e. targets_from n p e))
      by others None h = tt
      by others (Some e) h = (target_there d e h, others e)

  -- each target of a chain stands at its offset
  pub chain_there : (d : Located) → AllZip (IsAt p) (map offset_of (targets_of p d)) (targets_of p d)
  unfolding targets_of
  chain_there d = by (gives_scope_alone (facts_of d.item))
    where
      by : (b : Bool) → AllZip (IsAt p) (map offset_of (cond b [] (targets_from MAX_CHAIN_HOPS p d))) (cond b [] (targets_from MAX_CHAIN_HOPS p d))
      by true = tt
      by false = targets_there MAX_CHAIN_HOPS d

  first_there : (ds : List Located) (e : Located) → AllZip (IsAt p) (map offset_of ds) ds → first (filter_map (open_around p) ds) ≡ Some e → IsAt p e.item.at e
  first_there [] e z h = absurd (cc)
  first_there (d ∷ ds) e z h = by (λ l. first_there ds e z.1 l) (open_around p d) refl h
    where
      by : (first (filter_map (open_around p) ds) ≡ Some e → IsAt p e.item.at e) → (o : Option Located) → open_around p d ≡ o → first (cons_option o (filter_map (open_around p) ds)) ≡ Some e → IsAt p e.item.at e
      by later None k l = later l
      by later (Some x) k l = open_there d.item.at d z.0 e (k ∙ l)

  target_around : (class : Option LanguageClass) (d e : Located) → around_target p class d ≡ Some e → IsAt p e.item.at e
  target_around None d e h = absurd (cc)
  target_around (Some class) d e h = by (is_c class) h
    where
      by : (b : Bool) → cond b None (first (filter_map (open_around p) (targets_of p d))) ≡ Some e → IsAt p e.item.at e
      by true k = absurd (cc)
      by false k = first_there (targets_of p d) e (chain_there d) k

  -- the scope of an item stands at its offset
  pub scope_there : (o : ℕ) (d e : Located) → IsAt p o d → scope_in_place p d ≡ Some e → IsAt p e.item.at e
  unfolding scope_in_place
  scope_there o d e here h = by (around_by p (class_read p d.home) d) refl h
    where
      by : (q : Option Located) → around_by p (class_read p d.home) d ≡ q → option_or q (around_target p (class_read p d.home) d) ≡ Some e → IsAt p e.item.at e
      by None k l = target_around (class_read p d.home) d e l
      by (Some x) k l = around_there o d here (class_read p d.home) e (k ∙ l)

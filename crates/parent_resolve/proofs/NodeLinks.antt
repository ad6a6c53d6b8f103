-- The link of one node, and the links of nodes in their order.
use Rattle.std.proofs.Common.{◌≡◌, Bool, true, false, cond, eqb, ◌&&◌, ◌||◌, List, [], ◌∷◌, ◌++◌, flat_map, Option, Some, None, Result, Ok, Err, refl, sym, ap, subst, ◌∙◌}
use Rattle.std.specs.Prelude.{Contains, IsOkAnd}
use Rattle.std.specs.List.{AllZip}
use Rattle.std.proofs.lemmas.List.Elements.{Contains-append_left, Contains-append_right}
use Rattle.std.proofs.lemmas.Bool.{and_right, and_parts, eqb-true, true≢false}
use Rattle.common_laws.proofs.Members.{to_map, of_filter, to_flat_map}
use Rattle.ix_base.specs.declared.fault.Fault.{Fault}
use Rattle.index_model.specs.Gives.{Stop}
use Rattle.ix_base.specs.declared.or_memory.OrMemory.TheVariants as stops
use Rattle.index_model.specs.declared.shard.LinkedEntry.{LinkedEntry}
use Rattle.index_model.specs.Gives.{GivesFor}
use Rattle.index_model.specs.Meaning.{◌>>=◌, at_place, each}
use Rattle.index_model.specs.Languages.{class_of_unit}
use Rattle.index_model.specs.Links.{Link, link_of}
use Rattle.index_model.specs.Program.{Walked, Program, Located, items_of, located}
use Rattle.index_model.specs.Rules.{is_in_table, is_visited, is_ada}
use Rattle.index_model.specs.Shards.{IsLinkedEntryOf, IsRunOf}
use Rattle.index_model.specs.ShardParts.{is_kept, kept_in, may_be_ada, may_be_followed}
use Rattle.index_model.proofs.VisitedLaws.{visited_by_parent}
use Rattle.index_model.proofs.Located.{at_home}
use Rattle.parent_resolve.specs.Followed.{all_entries}
use Rattle.parent_resolve.specs.EntryLinks.{IsEntryOf}
use Rattle.parent_resolve.specs.Runs.{is_followed, links_at, IsLinkedNode}
use Rattle.parent_resolve.proofs.Entries.{home_of}

-- ---- one node

module _ (p : Program) (d : Located) where
  abbrev pub placed : Result Link Fault
  placed = at_place d.item.at (link_of p d)

  abbrev alone : Result Link Fault → Result (List Link) Fault
  alone r = r >>= λ k. Ok (k ∷ [])

  -- nothing is said of an entry whose references aren't followed
  pub skips : is_followed p d ≡ false → IsOkAnd (links_at p (d ∷ [])) (IsLinkedNode p None)
  skips off = subst (λ (b : Bool). IsOkAnd (each (λ d. at_place d.item.at (link_of p d)) (cond b (d ∷ []) [])) (IsLinkedNode p None)) (sym off) tt

  one_link : is_followed p d ≡ true → links_at p (d ∷ []) ≡ alone placed
  one_link on = ap (λ (b : Bool). each (λ d. at_place d.item.at (link_of p d)) (cond b (d ∷ []) [])) on

  gives_one : (o : Option LinkedEntry) (r : Result Link Fault) → IsOkAnd r (IsEntryOf p o) → IsOkAnd (alone r) (IsLinkedNode p o)
  gives_one None (Ok k) off = subst (λ (b : Bool). AllZip (IsLinkedEntryOf p) [] (cond b (k ∷ []) [])) (sym off) tt
  gives_one (Some e) (Ok k) h = subst (λ (b : Bool). AllZip (IsLinkedEntryOf p) (e ∷ []) (cond b (k ∷ []) [])) (sym h.0) (h.1, tt)
  gives_one o (Err f) h = absurd h

  gives_alone : (result : Result (Option LinkedEntry) Stop) → GivesFor (IsEntryOf p) result placed → GivesFor (IsLinkedNode p) result (alone placed)
  gives_alone (Ok o) h = gives_one o placed h
  gives_alone (Err stops.Memory) h = tt
  gives_alone (Err (stops.Cause f)) h = ap alone h

  -- what is said of one whose references are
  pub follows : is_followed p d ≡ true → (result : Result (Option LinkedEntry) Stop) → GivesFor (IsEntryOf p) result placed → GivesFor (IsLinkedNode p) result (links_at p (d ∷ []))
  follows on result h = subst (λ (r : Result (List Link) Fault). GivesFor (IsLinkedNode p) result r) (sym (one_link on)) (gives_alone result h)

  listed : may_be_followed d.home d.item ≡ true → is_in_table d.item.tag ≡ true
  unfolding may_be_followed
  listed may = (and_parts (is_in_table d.item.tag) (is_visited (may_be_ada d.home) (items_of d.home) d.item) may).0

  -- what has a node and is visited has a tag that may be listed
  pub in_its_table : (ada : Bool) → is_kept d.home d.item ≡ true → is_visited ada (items_of d.home) d.item ≡ true → is_in_table d.item.tag ≡ true
  in_its_table ada kept on = by (eqb d.item.depth 0) refl kept
    where
      by : (b : Bool) → eqb d.item.depth 0 ≡ b → (b || may_be_followed d.home d.item) ≡ true → is_in_table d.item.tag ≡ true
      by true root k = absurd (true≢false (sym on ∙ (visited_by_parent ada (items_of d.home) d.item).root (eqb-true d.item.depth 0 root)))
      by false deep k = listed k

  pub not_visited : is_visited (is_ada (class_of_unit p d.home)) (items_of d.home) d.item ≡ false → is_followed p d ≡ false
  not_visited off = and_right (is_in_table d.item.tag) _ off

  pub both : is_in_table d.item.tag ≡ true → is_visited (is_ada (class_of_unit p d.home)) (items_of d.home) d.item ≡ true → is_followed p d ≡ true
  both table visited = ap (λ (b : Bool). b && is_visited (is_ada (class_of_unit p d.home)) (items_of d.home) d.item) table ∙ visited

-- a kept entry of a run is an entry of the program
pub kept_there : (p : Program) (run : List Walked) → IsRunOf p run → (d : Located) → Contains (kept_in run) d → Contains (flat_map located run) d × Contains p.walks d.home × Contains (all_entries p) d
kept_there p run r d c =
    let inside = (of_filter (λ d. is_kept d.home d.item) (flat_map located run) d c).0 in
    let home = home_of run d inside in
    let walk : Contains p.walks d.home = subst (λ (ws : List Walked). Contains ws d.home) (sym r.is) (Contains-append_right r.before (run ++ r.after) d.home (Contains-append_left run r.after d.home home.0)) in
    (inside, walk, to_flat_map located p.walks d.home d walk (to_map (at_home d.home) (items_of d.home) d.item home.1))

pub kept_is : (run : List Walked) (d : Located) → Contains (kept_in run) d → is_kept d.home d.item ≡ true
kept_is run d c = (of_filter (λ d. is_kept d.home d.item) (flat_map located run) d c).1

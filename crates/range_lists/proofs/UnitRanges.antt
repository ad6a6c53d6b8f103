-- The ranges of a unit, by the shard and the links of its run.
use Rattle.std.proofs.Common.{◌≡◌, ℕ, ◌-◌, Bool, true, false, cond, eqb, ◌&&◌, ◌||◌, List, [], ◌∷◌, ◌++◌, map, filter, flat_map, Option, Some, None, Result, Ok, refl, sym, ap, subst, ◌∙◌, arith, inl, inr, ⊎_elim}
use Rattle.std.specs.Prelude.{Contains, find, slice_get, is_some, option_and_then}
use Rattle.std.specs.Option.{option_map}
use Rattle.std.specs.List.{AllZip}
use mathlib.Core.Logic.{◌⊎◌}
use Rattle.std.proofs.lemmas.Bool.{false≢true, eq-eqb, and_parts}
use Rattle.std.proofs.lemmas.List.{append-nil}
use Rattle.std.proofs.lemmas.List.Elements.{Contains-append_left, Contains-append_right}
use Rattle.common_laws.proofs.Members.{contains_cases, of_filter}
use Rattle.ix_base.specs.declared.fault.Fault.{Fault}
use Rattle.ix_base.specs.Reading.{Input}
use Rattle.index_model.specs.declared.range.Range.{Range}
use Rattle.index_model.specs.declared.shard.Node.{Node}
use Rattle.index_model.specs.declared.shard.LinkedEntry.{LinkedEntry}
use Rattle.index_model.specs.declared.shard.Linked.{Linked}
use Rattle.index_model.specs.declared.shard.Raw.{Raw}
use Rattle.index_model.specs.declared.shard.Shard.{Shard}
use Rattle.index_model.specs.Meaning.{◌>>=◌, each}
use Rattle.index_model.specs.Sections.{Section}
use Rattle.index_model.specs.Units.{units_of}
use Rattle.index_model.specs.declared.unit.Unit.{Unit as UnitHeader}
use Rattle.file_image.specs.Images.{Image, image_of}
use Rattle.file_image.proofs.Images.{Parts, parts_of}
use Rattle.index_model.specs.Forms.{Value, Addr, AddrIndex}
use Rattle.index_model.specs.Tags.{subprogram}
use Rattle.index_model.specs.Attributes.{attribute, as_address, low_pc}
use Rattle.index_model.specs.Walk.{Item, Token, Null, Entry}
use Rattle.index_model.specs.NodeSeen.{NodeSeen}
use Rattle.index_model.specs.Program.{Walked, Program, Located, items_of, located, root_of}
use Rattle.index_model.specs.Links.{Link, is_link_indexed, indexed_in}
use Rattle.index_model.specs.Ranges.{entry_ranges, entries_with_ranges, has_ranges, subprograms_in, ranges_of}
use Rattle.index_model.specs.Faults.{program_of, links_of}
use Rattle.index_model.specs.ShardParts.{IsSeenOf, node_facts, is_kept, kept_in, may_be_followed, root_facts}
use Rattle.index_model.specs.Shards.{IsRunOf, AreShardsOf}
use Rattle.index_model.specs.ShardLanguages.{first_some, root_in, NodesRise}
use Rattle.index_model.proofs.Meanings.{same_ok}
use Rattle.index_model.proofs.TokenReads.{Follow, start}
use Rattle.index_model.proofs.OrderLaws.{entries, walk_tokens}
use Rattle.index_model.proofs.Pairs.{Pairs, On, pairs_filter, pairs_of_map}
use Rattle.index_model.proofs.ShardRoots.{Numbered, program_numbered, find_number, roots_are, joined}
use Rattle.index_model.proofs.Scans.{program_parts}
use Rattle.index_model.proofs.ShardNodes.{all_rise}
use Rattle.index_model.proofs.UnitsApart.{program_apart, run_apart}
use Rattle.index_model.proofs.Located.{Before, located_before, of_located, at_home}
use Rattle.range_lists.specs.Homes.{as_value}
use Rattle.range_lists.specs.Nodes.{node_ranges, all_node_ranges, has_node_ranges, is_linked, is_linked_subprogram, nodes_with_ranges, EntriesRise}
use Rattle.range_lists.specs.Units.{AreLinkedOf, Keeps, facts_in, unit_nodes, first_low}
use Rattle.common_laws.proofs.Filters.{filter_within, filter_both}
use Rattle.range_lists.proofs.Filters.{zip_filter, each_zip, each_map}
use Rattle.range_lists.proofs.Located.{at_number, home_only}
use Rattle.index_model.proofs.Followed.{is_followed, all_followed, followed_kept}
use Rattle.range_lists.proofs.NodeItems.{node_place, node_unit, node_tag, node_low, node_has, node_is_entry}
use Rattle.range_lists.proofs.LinkedLaws.{own, entries_pairs, pairs_rise, listed_followed, subprograms_are}
use Rattle.range_lists.proofs.Runs.{Chosen, chosen_at, member_of, scan_unit}

-- ---- a root comes first

heads : (i : Input) (ts : List Token) → Follow start i ts → (entries ts ≡ []) ⊎ ((r : Item) × (rest : List Item) × (entries ts ≡ r ∷ rest) × (r.depth ≡ 0))
heads i [] f = inl refl
heads i (Null depth after ∷ ts) f = absurd (false≢true f.2.says.0)
heads i (Entry e ∷ ts) f = inr (e, entries ts, refl, f.2.says.1)

-- ---- pairs

zip_none : {A B : Type 0} (R : A → B → Type 0) (xs : List A) → AllZip R xs [] → xs ≡ []
zip_none R [] z = refl
zip_none R (x ∷ xs) z = absurd z

record Leads {A B : Type 0} (R : A → B → Type 0) (xs : List A) (y : B) (ys : List B) : Type 0 where
  head : A
  rest : List A
  is : xs ≡ head ∷ rest
  first : R head y

zip_some : {A B : Type 0} (R : A → B → Type 0) (xs : List A) (y : B) (ys : List B) → AllZip R xs (y ∷ ys) → Leads R xs y ys
zip_some R [] y ys z = absurd z
zip_some R (x ∷ xs) y ys z = record { head = x; rest = xs; is = refl; first = z.0 }

to_flat : (w : Walked) (ws : List Walked) → Contains ws w → (d : Located) → Contains (located w) d → Contains (flat_map located ws) d
to_flat w [] c d dc = absurd (omega (arith, c.1))
to_flat w (v ∷ ws) c d dc = ⊎_elim
    (λ (same : v ≡ w). Contains-append_left (located v) (flat_map located ws) d (subst (λ (x : Walked). Contains (located x) d) (sym same) dc))
    (λ (l : Contains ws w). Contains-append_right (located v) (flat_map located ws) d (to_flat w ws l d dc))
    (contains_cases v ws w c)

-- the facts of nodes are those of their entries
facts_zip : (ss : List Section) (ns : List NodeSeen) (ds : List Located) → AllZip (IsSeenOf ss) ns ds → AllZip (λ (n : Node) (d : Located). n ≡ node_facts d) (facts_in ns) ds
facts_zip ss [] [] z = tt
facts_zip ss [] (d ∷ ds) z = absurd z
facts_zip ss (n ∷ ns) [] z = absurd z
facts_zip ss (n ∷ ns) (d ∷ ds) z = (z.0.facts, facts_zip ss ns ds z.1)

address_again : (o : Option Value) → option_and_then as_address (option_and_then as_address o) ≡ option_and_then as_address o
address_again None = refl
address_again (Some (Addr a)) = refl
address_again (Some (AddrIndex i)) = refl
address_again (Some other) = refl

by_value : (o : Option Raw) → option_and_then (λ r. as_address (as_value r)) o ≡ option_and_then as_address (option_map as_value o)
by_value (Some r) = refl
by_value None = refl

module _ (f : List ℕ) (p : Program) (ks : List Link) (file : program_of f ≡ Ok p) (links : links_of p ≡ Ok ks) (s : Shard) (l : Linked) (c : Chosen p p.walks s l) (w : Walked) (wc : Contains c.run w) where
  abbrev ss : List Section
  ss = p.sections

  abbrev es : List LinkedEntry
  es = l.entries

  r : IsRunOf p c.run
  r = record { before = c.before; after = c.after; is = c.is }

  in_program : Contains p.walks w
  in_program = subst (λ (ws : List Walked). Contains ws w) (sym c.is) (Contains-append_right c.before (c.run ++ c.after) w (Contains-append_left c.run c.after w wc))

  before : Pairs Before (flat_map located p.walks)
  before = located_before ss p.walks (program_apart f p file)

  abbrev nodes : List Node
  nodes = unit_nodes w.number (facts_in s.nodes)

  abbrev IsOf : Node → Located → Type 0
  IsOf n d = n ≡ node_facts d

  abbrev is_kept_here : Located → Bool
  is_kept_here d = is_kept d.home d.item

  abbrev kept_items : List Located
  kept_items = filter is_kept_here (located w)

  -- ---- orders

  pub nodes_rise : NodesRise s
  nodes_rise =
      let all = all_rise ss (s ∷ []) (c.run ∷ []) c.first (c.stands, tt) (subst (Numbered c.first) (sym (append-nil c.run)) c.numbered) in
      all 0 s (omega arith)

  pub entries_rise : EntriesRise es
  entries_rise =
      let entry : Link → Located = λ k. k.entry in
      let run_before = pairs_filter Before (is_followed p) (flat_map located c.run) (located_before ss c.run (run_apart f p c.run file r)) in
      let linked = pairs_of_map Before entry c.own.links (subst (Pairs Before) (sym ((own p ks links c.run r (program_apart f p file).apart before c.own.links c.own.given).entries ∙ all_followed p c.run)) run_before) in
      pairs_rise es (entries_pairs p es (indexed_in c.own.links) c.own.is (pairs_filter (On Before entry) is_link_indexed c.own.links linked))

  -- ---- the nodes of the unit

  nodes_zip : AllZip IsOf nodes kept_items
  nodes_zip =
      let z = zip_filter IsOf (λ (n : Node). eqb n.unit w.number) (λ (d : Located). eqb d.home.number w.number) (λ n d h. ap (λ (k : ℕ). eqb k w.number) (node_unit d n h)) (facts_in s.nodes) (kept_in c.run) (facts_zip ss s.nodes (kept_in c.run) c.stands.nodes) in
      let one = filter_both (λ (d : Located). eqb d.home.number w.number) is_kept_here (at_number w.number is_kept_here) (flat_map located c.run) (λ d dc. refl) ∙ home_only is_kept_here w c.first c.run c.numbered wc in
      subst (AllZip IsOf nodes) one z

  listed_kept : (d : Located) → Contains (located w) d → is_linked es d.item.at ≡ true → is_kept_here d ≡ true
  listed_kept d dc on =
      let there : Contains (flat_map located p.walks) d = to_flat w p.walks in_program d dc in
      followed_kept p d (listed_followed p ks links c.run r (program_apart f p file).apart before c.own.links c.own.given es c.own.is d there on)

  -- ---- subprograms

  abbrev is_counted : Located → Bool
  is_counted d = eqb d.item.tag subprogram && is_linked es d.item.at

  subprograms_zip : AllZip IsOf (filter (is_linked_subprogram es) nodes) (filter is_counted (located w))
  subprograms_zip =
      let z = zip_filter IsOf (is_linked_subprogram es) is_counted (λ n d h.
      ap (λ (k : ℕ). eqb k subprogram && is_linked es n.offset) (node_tag d n h) ∙ ap (λ (k : ℕ). eqb d.item.tag subprogram && is_linked es k) (node_place d n h)) nodes kept_items nodes_zip in
      let one = filter_within is_kept_here is_counted (located w) (λ d dc on. listed_kept d dc (and_parts (eqb d.item.tag subprogram) (is_linked es d.item.at) on).1) in
      subst (AllZip IsOf (filter (is_linked_subprogram es) nodes)) one z

  node_entry : (n : Node) (d : Located) → d.home ≡ w → IsOf n d → node_ranges ss w n ≡ entry_ranges ss w d.item
  node_entry n d home h =
      ap (λ (v : Walked). node_ranges ss v n) (sym home) ∙ node_is_entry d n h ss ∙ ap (λ (v : Walked). entry_ranges ss v d.item) home

  subprograms_same : each (entry_ranges ss w) (subprograms_in ks w) ≡ each (node_ranges ss w) (filter (is_linked_subprogram es) nodes)
  subprograms_same =
      let item : Located → Item = λ d. d.item in
      let chosen : subprograms_in ks w ≡ map item (filter is_counted (located w)) =
      subprograms_are p ks links c.run r (program_apart f p file).apart before c.own.links c.own.given es c.own.is w wc ∙ ap (map item) (home_only is_counted w 0 p.walks (program_numbered f p file) in_program) in
      ap (each (entry_ranges ss w)) chosen ∙
      each_map item (entry_ranges ss w) (filter is_counted (located w)) ∙
      sym (each_zip IsOf (node_ranges ss w) (λ d. entry_ranges ss w d.item) (filter (is_linked_subprogram es) nodes) (filter is_counted (located w)) (λ n d dc h. node_entry n d (of_located w d (of_filter is_counted (located w) d dc).0).0 h) subprograms_zip)

  -- ---- the root

  abbrev flat : Result (List (List Range)) Fault → Result (List Range) Fault
  flat parts = parts >>= λ rs. Ok (flat_map (λ r. r) rs)

  abbrev Right : Type 0
  Right = (option_and_then low_pc (root_of w) ≡ option_and_then (λ r. as_address (as_value r)) (first_low nodes)) × (ranges_of p ks w ≡ all_node_ranges ss w (nodes_with_ranges es nodes))

  without_root : items_of w ≡ [] → Right
  unfolding ranges_of entries_with_ranges
  without_root none =
      let root : root_of w ≡ None = ap (find (λ d. eqb d.depth 0)) none in
      let kept_none : kept_items ≡ [] = ap (λ (ds : List Item). filter is_kept_here (map (at_home w) ds)) none in
      let empty : nodes ≡ [] = zip_none IsOf nodes (subst (AllZip IsOf nodes) kept_none nodes_zip) in (
        ap (option_and_then low_pc) root ∙ sym (ap (λ (ns : List Node). option_and_then (λ r. as_address (as_value r)) (first_low ns)) empty),
        ap (λ (o : Option Item). flat (each (entry_ranges ss w) (entries_with_ranges ks w o))) root ∙ sym (ap (λ (ns : List Node). all_node_ranges ss w (nodes_with_ranges es ns)) empty),
      )

  ranges_at : (root : Item) → root_of w ≡ Some root → (n : Node) (rest : List Node) → nodes ≡ n ∷ rest → IsOf n (at_home w root) → ranges_of p ks w ≡ all_node_ranges ss w (nodes_with_ranges es nodes)
  unfolding ranges_of entries_with_ranges
  ranges_at root first n rest is h =
      ap (λ (o : Option Item). flat (each (entry_ranges ss w) (entries_with_ranges ks w o))) first ∙
      ap flat (by (has_ranges w.unit.version root) (node_has (at_home w root) n h)) ∙
      sym (ap (λ (ns : List Node). all_node_ranges ss w (nodes_with_ranges es ns)) is)
    where
      own_ranges : node_ranges ss w n ≡ entry_ranges ss w root
      own_ranges = node_entry n (at_home w root) refl h

      many : each (entry_ranges ss w) (subprograms_in ks w) ≡ each (node_ranges ss w) (filter (is_linked_subprogram es) (n ∷ rest))
      many = subprograms_same ∙ ap (λ (ns : List Node). each (node_ranges ss w) (filter (is_linked_subprogram es) ns)) is

      by : (b : Bool) → has_node_ranges n ≡ b → each (entry_ranges ss w) (cond b (root ∷ []) (subprograms_in ks w)) ≡ each (node_ranges ss w) (cond (has_node_ranges n) (n ∷ []) (filter (is_linked_subprogram es) (n ∷ rest)))
      by true e =
          ap (λ (x : Result (List Range) Fault). x >>= λ y. Ok (y ∷ [])) (sym own_ranges) ∙
          sym (ap (λ (b : Bool). each (node_ranges ss w) (cond b (n ∷ []) (filter (is_linked_subprogram es) (n ∷ rest)))) e)
      by false e = many ∙ sym (ap (λ (b : Bool). each (node_ranges ss w) (cond b (n ∷ []) (filter (is_linked_subprogram es) (n ∷ rest)))) e)

  with_root : (root : Item) (rest : List Item) → items_of w ≡ root ∷ rest → root.depth ≡ 0 → Right
  with_root root rest is top =
      let first : root_of w ≡ Some root = ap (find (λ d. eqb d.depth 0)) is ∙ ap (λ (b : Bool). cond b (Some root) (find (λ (d : Item). eqb d.depth 0) rest)) (eq-eqb root.depth 0 top) in
      let others = filter is_kept_here (map (at_home w) rest) in
      let root_kept : is_kept_here (at_home w root) ≡ true = ap (λ (b : Bool). b || may_be_followed w root) (eq-eqb root.depth 0 top) in
      let kept_some : kept_items ≡ at_home w root ∷ others =
      ap (λ (ds : List Item). filter is_kept_here (map (at_home w) ds)) is ∙ ap (λ (b : Bool). cond b (at_home w root ∷ others) others) root_kept in
      let z = zip_some IsOf nodes (at_home w root) others (subst (AllZip IsOf nodes) kept_some nodes_zip) in
      let n = z.head in
      let facts = z.first in
      let low = by_value n.low ∙ ap (option_and_then as_address) (node_low (at_home w root) n facts) ∙ address_again (attribute 0x11 root) in (
        ap (option_and_then low_pc) first ∙ sym (ap (λ (ns : List Node). option_and_then (λ r. as_address (as_value r)) (first_low ns)) z.is ∙ low),
        ranges_at root first n z.rest z.is z.first,
      )

  -- the shard and the links give the ranges of the unit
  pub right : Right
  right =
      let walk = (program_apart f p file).walks w in_program in
      let t = walk_tokens ss walk.0 w walk.1 in
      ⊎_elim
      (λ (none : items_of w ≡ []). without_root none)
      (λ (some : (root : Item) × (rest : List Item) × (items_of w ≡ root ∷ rest) × (root.depth ≡ 0)). with_root some.0 some.1 some.2 some.3)
      (heads t.0 w.walk.tokens t.1)

-- ---- all shards

-- the shards have the root of a unit
pub root_there : (f : List ℕ) (p : Program) → program_of f ≡ Ok p → (shards : List Shard) (h : AreShardsOf p shards) (w : Walked) → Contains p.walks w → (unit : ℕ) → w.number ≡ unit → first_some (root_in unit) shards ≡ Some (root_facts w)
root_there f p file shards h w wc unit number =
    let numbered : Numbered 0 (joined h.runs) = subst (Numbered 0) (sym h.all) (program_numbered f p file) in
    let member : Contains (joined h.runs) w = subst (λ (ws : List Walked). Contains ws w) (sym h.all) wc in
    ap (λ (u : ℕ). first_some (root_in u) shards) (sym number) ∙
    roots_are p.sections shards h.runs w.number 0 h.stand numbered ∙ ap (option_map root_facts) (find_number 0 (joined h.runs) w numbered member)

-- what the shard and the links at a place keep of a unit, and its ranges
abbrev Found : Image → Program → List Link → Shard → Linked → Walked → ℕ → Type 0
Found image p ks s l w unit = Keeps image s l unit w × (ranges_of p ks w ≡ all_node_ranges image.sections w (nodes_with_ranges l.entries (unit_nodes unit (facts_in s.nodes))))

module _ (image : Image) (of_file : image_of image.file ≡ Ok image) (p : Program) (ks : List Link) (file : program_of image.file ≡ Ok p) (links : links_of p ≡ Ok ks) where
  parts : Parts image.file image
  parts = parts_of image.file image of_file

  same_sections : p.sections ≡ image.sections
  same_sections = same_ok p.sections image.sections (sym (program_parts image.file p file).1 ∙ parts.sections)

  header : (w : Walked) → Contains p.walks w → slice_get image.units w.number ≡ Some w.unit
  header w wc =
      let a = program_parts image.file p file in
      let us : a.0 ≡ image.units = same_ok a.0 image.units (sym a.2 ∙ ap units_of same_sections ∙ parts.units) in
      let from : w.number ≡ w.number - 0 = omega arith in
      ap (λ (xs : List UnitHeader). slice_get xs w.number) (sym us) ∙ ap (slice_get a.0) from ∙ (scan_unit p.sections 0 a.0 p.walks a.3 w wc).1

  found : (s : Shard) (l : Linked) (c : Chosen p p.walks s l) (w : Walked) → Contains p.walks w → is_some (root_in w.number s) ≡ true → Found image p ks s l w w.number
  found s l c w wc on =
      let m = member_of p p.walks 0 (program_numbered image.file p file) w wc s l c on in
      let r = right image.file p ks file links s l c w m.0 in
      let keeps : Keeps image s l w.number w = record {
        header = header w wc;
        root = m.1;
        low = r.0;
        nodes = nodes_rise image.file p ks file links s l c w m.0;
        entries = entries_rise image.file p ks file links s l c w m.0;
      } in
      (keeps, r.1 ∙ ap (λ (secs : List Section). all_node_ranges secs w (nodes_with_ranges l.entries (unit_nodes w.number (facts_in s.nodes)))) same_sections)

  pub found_at : (shards : List Shard) (linked : List Linked) (h : AreShardsOf p shards) → AreLinkedOf p shards h linked → (w : Walked) → Contains p.walks w → (unit : ℕ) → w.number ≡ unit →
      (k : ℕ) (s : Shard) (l : Linked) → slice_get shards k ≡ Some s → slice_get linked k ≡ Some l → is_some (root_in unit s) ≡ true → Found image p ks s l w unit
  found_at shards linked h own w wc unit number k s l is its on =
      let numbered : Numbered 0 (joined h.runs) = subst (Numbered 0) (sym h.all) (program_numbered image.file p file) in
      let c : Chosen p p.walks s l = subst (λ (ws : List Walked). Chosen p ws s l) h.all (chosen_at p shards linked h.runs 0 h.stand own numbered k s l is its) in
      subst (Found image p ks s l w) number (found s l c w wc (ap (λ (u : ℕ). is_some (root_in u s)) number ∙ on))

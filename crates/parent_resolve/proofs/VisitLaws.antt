-- Whether an entry is visited, by the nodes of a shard.
use Rattle.std.proofs.Common.{◌≡◌, ℕ, ◌<◌, ◌≤◌, Bool, true, false, cond, eqb, not, ◌||◌, List, ◌++◌, length, flat_map, get_or, Option, Some, None, option_map, Ok, refl, sym, ap, subst, ◌∙◌, arith, ⊎_elim}
use Rattle.std.specs.Prelude.{Contains, find, is_none, is_some}
use Rattle.std.specs.List.Sorted.{IsNonDecreasingBy}
use Rattle.std.proofs.lemmas.Bool.{eq-eqb, ne_eqb, cases_lt, true≢false, false≢true, and_parts, and_from}
use Rattle.std.proofs.lemmas.List.{get_or_default}
use Rattle.std.proofs.lemmas.Option.{same_Some}
use Rattle.common_laws.proofs.Members.{of_filter, to_filter}
use Rattle.index_model.specs.declared.shard.Node.{Node}
use Rattle.index_model.specs.declared.shard.Shard.{Shard}
use Rattle.index_model.specs.declared.rules.Parent.TheVariants.{Root, Other, Seen}
use Rattle.index_model.specs.Faults.{program_of}
use Rattle.index_model.specs.Languages.{class_of_unit}
use Rattle.index_model.specs.NodeSeen.{NodeSeen, node_seen}
use Rattle.index_model.specs.LawsOrder.{IsInOrder}
use Rattle.index_model.specs.Program.{Walked, Program, Located, items_of, located}
use Rattle.index_model.specs.Rules.{is_ada, is_in_table, is_visited, is_visited_under, opens, parent_as}
use Rattle.index_model.specs.Sections.{Section}
use Rattle.index_model.specs.ShardParts.{IsNodeOf, IsSeenOf, is_kept, kept_in, may_be_ada, may_be_followed, root_facts}
use Rattle.index_model.specs.ShardLanguages.{root_in}
use Rattle.index_model.specs.Shards.{IsRunOf, StandsFor}
use Rattle.index_model.specs.Walk.{Item, parent_of}
use Rattle.index_model.proofs.Pairs.{Pairs, pairs_filter}
use Rattle.index_model.proofs.ShardRoots.{Numbered, program_numbered, numbered_front, numbered_back, find_number, root_is}
use Rattle.index_model.proofs.UnitsApart.{AreApart, run_apart}
use Rattle.index_model.proofs.VisitedLaws.{visited_by_parent}
use Rattle.index_model.proofs.Located.{Before, at_home, located_before}
use Rattle.parent_resolve.specs.Visits.{IsVisitedBy, takes_importers_class, HasNoneAt}
use Rattle.parent_resolve.proofs.Entries.{order, home_of, entry_of, found_at, above, top, IsAbove}
use Rattle.parent_resolve.proofs.NodeLaws.{node_parts, seen_parts, node_unit, node_parent, offset_in, of_node, to_node, nodes_below, nodes_rise}
use Rattle.parent_resolve.proofs.OpenedTags.{opens_listed}
use Rattle.parent_resolve.proofs.AdaLaws.{known_class, may_be_visited}

pub none_says : (o : Option ℕ) (r b : Bool) → is_some o ≡ not r → r ≡ b → is_none o ≡ b
none_says o true b e is = ap not e ∙ is
none_says o false b e is = ap not e ∙ is

absent : (x : Option ℕ) → is_none x ≡ true → x ≡ None
absent None e = refl
absent (Some y) e = absurd (false≢true e)

-- ---- the entry of a node

-- the entry of the node, in a run of a file's units for which the shard stands
pub record IsEntryIn (s : Shard) (node : Node) (ada : Bool) (d : Located) : Type 0 where
  pub file : List ℕ
  pub p : Program
  pub run : List Walked
  pub of_file : program_of file ≡ Ok p
  pub is_run : IsRunOf p run
  pub stands : StandsFor p.sections s run
  pub kept : Contains (kept_in run) d
  pub is_node : IsNodeOf p.sections node d
  pub class : ada ≡ is_ada (class_of_unit p d.home)

-- The entry is visited if the one at hand is, of which this is the parent's offset. Nodes behind the place stand behind it.
pub record Climbs (ada : Bool) (nodes : List NodeSeen) (d : Located) (up : Option ℕ) (before : ℕ) : Type 0 where
  pub entry : Item
  pub member : Contains (items_of d.home) entry
  pub same : is_visited ada (items_of d.home) d.item ≡ is_visited ada (items_of d.home) entry
  pub parent : up ≡ offset_in (parent_of (items_of d.home) entry)
  pub behind : (k : ℕ) (n : NodeSeen) → before ≤ k → k < length nodes → entry.at ≤ (get_or nodes k n).facts.offset

no_offset : (o : Option Item) → None ≡ offset_in o → o ≡ None
no_offset None h = refl
no_offset (Some e) h = absurd cc

offset_there : (o : Option Item) (at : ℕ) → Some at ≡ offset_in o → (e : Item) × (o ≡ Some e) × (e.at ≡ at)
offset_there None at h = absurd cc
offset_there (Some e) at h = (e, refl, same_Some e.at at (sym h))

module _ (s : Shard) (node : Node) (ada : Bool) (d : Located) (h : IsEntryIn s node ada d) where
  abbrev w : Walked
  w = d.home

  abbrev ds : List Item
  ds = items_of d.home

  abbrev ss : List Section
  ss = h.p.sections

  abbrev entries : List Located
  entries = flat_map located h.run

  apart : AreApart ss h.run
  apart = run_apart h.file h.p h.run h.of_file h.is_run

  below : Pairs Before entries
  below = located_before ss h.run apart

  own_kept : Contains entries d × (is_kept w d.item ≡ true)
  own_kept = of_filter (λ e. is_kept e.home e.item) entries d h.kept

  home : Contains h.run w × Contains ds d.item
  home = home_of h.run d own_kept.0

  ordered : IsInOrder w
  ordered = order ss w (apart.walks w home.0)

  pub rising : IsNonDecreasingBy (λ n. n.facts.offset) s.nodes
  rising = nodes_rise s.nodes (nodes_below ss s.nodes (kept_in h.run) h.stands.nodes (pairs_filter Before (λ e. is_kept e.home e.item) entries below))

  pub start : Climbs ada s.nodes d node.parent (length s.nodes)
  start = record {
    entry = d.item;
    member = home.1;
    same = refl;
    parent = node_parent ss node d h.is_node;
    behind = λ k n le lt. absurd (omega (arith, le, lt));
  }

  -- an offset in the run is that of one entry
  once : (x : Located) → Contains entries x → (m : Item) → Contains ds m → x.item.at ≡ m.at → x ≡ at_home w m
  once x xc m mc same =
      let there : Contains entries (at_home w m) = entry_of h.run w m home.0 mc in
      same_Some x (at_home w m) (sym (found_at entries below x xc) ∙ ap (λ (o : ℕ). find (λ e. eqb e.item.at o) entries) same ∙ found_at entries below (at_home w m) there)

  -- ---- what is kept

  numbered : (n : ℕ) × Numbered n h.run
  numbered =
      let r = h.is_run in
      let all : Numbered 0 (r.before ++ (h.run ++ r.after)) = subst (Numbered 0) r.is (program_numbered h.file h.p h.of_file) in
      let back = numbered_back 0 r.before (h.run ++ r.after) all in
      (back.0, numbered_front back.0 h.run r.after back.1)

  root_known : root_in node.unit s ≡ Some (root_facts w)
  root_known =
      ap (λ (u : ℕ). root_in u s) (node_unit ss node d h.is_node) ∙
      root_is ss s h.run w.number numbered.0 h.stands numbered.1 ∙
      ap (option_map root_facts) (find_number numbered.0 h.run w numbered.1 home.0)

  -- the answer for what may be visited is the answer
  pub by_class : takes_importers_class (root_in node.unit s) ≡ false → (answer : Bool) → answer ≡ is_visited (may_be_ada w) ds d.item → answer ≡ is_visited ada ds d.item
  by_class own answer is = is ∙ ap (λ (b : Bool). is_visited b ds d.item) (known_class h.p w (sym (ap takes_importers_class root_known) ∙ own) ∙ sym h.class)

  visited_of : may_be_followed w d.item ≡ true → is_visited (may_be_ada w) ds d.item ≡ true
  unfolding may_be_followed
  visited_of on = (and_parts (is_in_table d.item.tag) (is_visited (may_be_ada w) ds d.item) on).1

  -- what has a node may be visited, if it has a parent
  pub may_be : (o : Option ℕ) → o ≡ node.parent → is_some o ≡ is_visited (may_be_ada w) ds d.item
  may_be None is = sym ((visited_by_parent (may_be_ada w) ds d.item).root (top w ordered d.item home.1 (no_offset (parent_of ds d.item) (is ∙ node_parent ss node d h.is_node))))
  may_be (Some o) is = sym (visited_of (sym (ap (λ (b : Bool). b || may_be_followed w d.item) not_root) ∙ own_kept.1))
    where
      not_root : eqb d.item.depth 0 ≡ false
      not_root = ne_eqb d.item.depth 0 (λ z. true≢false (ap is_some (is ∙ node_parent ss node d h.is_node ∙ ap offset_in (ordered.root d.item home.1 z).1)))

  -- ---- upwards

  module _ (up : Option ℕ) (before : ℕ) (c : Climbs ada s.nodes d up before) where
    abbrev visited : Item → Bool
    visited = is_visited ada ds

    -- without a parent it is a root
    pub none_above : up ≡ None → false ≡ visited d.item
    none_above is =
        let t = top w ordered c.entry c.member (no_offset (parent_of ds c.entry) (sym is ∙ c.parent)) in
        sym (c.same ∙ (visited_by_parent ada ds c.entry).root t)

    module _ (o : ℕ) (is : up ≡ Some o) where
      mother : (m : Item) × (parent_of ds c.entry ≡ Some m) × (m.at ≡ o)
      mother = offset_there (parent_of ds c.entry) o (sym is ∙ c.parent)

      abbrev m : Item
      m = mother.0

      over : IsAbove w c.entry m
      over = above w ordered c.entry c.member m mother.1

      by_mother : visited d.item ≡ is_visited_under (parent_as (Some m) visited) ada
      by_mother = c.same ∙ (visited_by_parent ada ds c.entry).other over.below ∙ ap (λ (x : Option Item). is_visited_under (parent_as x visited) ada) mother.1

      there : Contains entries (at_home w m)
      there = entry_of h.run w m home.0 over.member

      -- where no node before the place has the offset the parent isn't kept, and so it isn't visited
      module _ (missing : HasNoneAt s.nodes before o) where
        not_kept : is_kept w m ≡ true → ⊥
        not_kept kept =
            let r = to_node ss s.nodes (kept_in h.run) h.stands.nodes (at_home w m) (to_filter (λ e. is_kept e.home e.item) entries (at_home w m) there kept) in
            let none = node_seen node in
            let offset : (get_or s.nodes r.0 none).facts.offset ≡ m.at = (seen_parts ss (get_or s.nodes r.0 none) (at_home w m) (r.2 none)).0 in
            ⊎_elim
            (λ (lt : r.0 < before). missing r.0 none lt r.1 (offset ∙ mother.2))
            (λ (ge : before ≤ r.0). let far = c.behind r.0 none ge r.1 in let early = over.earlier in omega (arith, far, offset, early))
            (cases_lt r.0 before)

        -- what isn't kept but visited doesn't open its children
        shut : may_be_followed w m ≡ false → visited m ≡ true → opens ada m.tag ≡ false
        unfolding may_be_followed
        shut off on = by (opens ada m.tag) refl
          where
            by : (b : Bool) → opens ada m.tag ≡ b → b ≡ false
            by false e = refl
            by true e =
                let may = may_be_visited h.p w m (subst (λ (b : Bool). is_visited b ds m ≡ true) h.class on) in
                absurd (true≢false (sym (and_from (is_in_table m.tag) (is_visited (may_be_ada w) ds m) (opens_listed ada m.tag e) may) ∙ off))

        pub unkept : false ≡ visited d.item
        unkept = by (eqb m.depth 0) (may_be_followed w m) refl (visited m) refl not_kept by_mother
          where
            by : (root followed : Bool) → may_be_followed w m ≡ followed → (v : Bool) → visited m ≡ v → ((root || followed) ≡ true → ⊥) → visited d.item ≡ is_visited_under (cond root Root (cond v (Seen m.tag) Other)) ada → false ≡ visited d.item
            by true followed f v s miss e = absurd (miss refl)
            by false true f v s miss e = absurd (miss refl)
            by false false f true s miss e = sym (e ∙ shut f s)
            by false false f false s miss e = sym e

      -- the node of the parent
      module _ (k : ℕ) (a : Node) (within : k < length s.nodes) (at : node_seen a ≡ get_or s.nodes k (node_seen a)) (offset : a.offset ≡ o) where
        is_parent : IsNodeOf ss a (at_home w m)
        is_parent =
            let r = of_node ss s.nodes (kept_in h.run) h.stands.nodes k (node_seen a) within in
            let own : IsNodeOf ss a r.0 = subst (λ (n : NodeSeen). IsSeenOf ss n r.0) (sym at) r.2 in
            let same : r.0 ≡ at_home w m = once r.0 (of_filter (λ e. is_kept e.home e.item) entries r.0 r.1).0 m over.member (sym (node_parts ss a r.0 own).0 ∙ offset ∙ sym mother.2) in
            subst (IsNodeOf ss a) same own

        parent_at : a.parent ≡ offset_in (parent_of ds m)
        parent_at = node_parent ss a (at_home w m) is_parent

        pub root_above : is_none a.parent ≡ true → true ≡ visited d.item
        root_above none = by (eqb m.depth 0) (eq-eqb m.depth 0 root) by_mother
          where
            root : m.depth ≡ 0
            root = top w ordered m over.member (no_offset (parent_of ds m) (sym (absent a.parent none) ∙ parent_at))

            by : (b : Bool) → b ≡ true → visited d.item ≡ is_visited_under (cond b Root (cond (visited m) (Seen m.tag) Other)) ada → true ≡ visited d.item
            by true on e = sym e
            by false on e = absurd (false≢true on)

        deep : is_none a.parent ≡ false → eqb m.depth 0 ≡ false
        deep some = ne_eqb m.depth 0 (λ z. true≢false (ap is_none (sym (ap offset_in (ordered.root m over.member z).1)) ∙ ap is_none (sym parent_at) ∙ some))

        by_tag : is_none a.parent ≡ false → visited d.item ≡ is_visited_under (cond (visited m) (Seen a.tag) Other) ada
        by_tag some = by_mother ∙ ap (λ (b : Bool). is_visited_under (cond b Root (cond (visited m) (Seen m.tag) Other)) ada) (deep some) ∙ ap (λ (t : ℕ). is_visited_under (cond (visited m) (Seen t) Other) ada) (sym (node_parts ss a (at_home w m) is_parent).2)

        pub closed : is_none a.parent ≡ false → is_visited_under (Seen a.tag) ada ≡ false → false ≡ visited d.item
        closed some shut = by (visited m) (by_tag some)
          where
            by : (v : Bool) → visited d.item ≡ is_visited_under (cond v (Seen a.tag) Other) ada → false ≡ visited d.item
            by true e = sym (e ∙ shut)
            by false e = sym e

        pub onwards : is_none a.parent ≡ false → is_visited_under (Seen a.tag) ada ≡ true → Climbs ada s.nodes d a.parent k
        onwards some open_ = record {
          entry = m;
          member = over.member;
          same = by (visited m) (by_tag some);
          parent = parent_at;
          behind = λ j n le lt.
              let rise = rising k j n le lt in
              let mine : a.offset ≡ (get_or s.nodes k n).facts.offset = ap (λ (x : NodeSeen). x.facts.offset) (at ∙ get_or_default s.nodes k (node_seen a) n within) in
              let place = mother.2 in
              omega (arith, rise, mine, place, offset);
        }
          where
            by : (v : Bool) → visited d.item ≡ is_visited_under (cond v (Seen a.tag) Other) ada → visited d.item ≡ v
            by true e = e ∙ open_
            by false e = e

-- an answer for every entry that the node may be that of
pub for_each : (s : Shard) (node : Node) (ada answer : Bool) → ((d : Located) → IsEntryIn s node ada d → answer ≡ is_visited ada (items_of d.home) d.item) → IsVisitedBy s node ada answer
for_each s node ada answer go file p run of_file is_run stands d kept is_node class = go d (record { file = file; p = p; run = run; of_file = of_file; is_run = is_run; stands = stands; kept = kept; is_node = is_node; class = class })

-- where the class isn't that of an importing unit, what has a node is visited below the root
pub by_parent : (s : Shard) (node : Node) (ada answer : Bool) → takes_importers_class (root_in node.unit s) ≡ false → answer ≡ is_some node.parent → IsVisitedBy s node ada answer
by_parent s node ada answer own is = for_each s node ada answer (λ d h. by_class s node ada d h own answer (is ∙ may_be s node ada d h node.parent refl))

-- What shards say of the first node of a unit.
use Rattle.std.proofs.Common.{◌≡◌, ℕ, zero, suc, ◌+◌, ◌<◌, ◌≤◌, Bool, true, false, cond, leb, ◌||◌, List, [], ◌∷◌, ◌++◌, map, flat_map, get_or, Option, Some, None, refl, sym, ap, subst, ◌∙◌, arith, ⊎_elim}
use Rattle.std.specs.Prelude.{All, Contains, filter, find}
use Rattle.std.specs.Option.{option_map, option_or}
use Rattle.std.specs.List.{AllZip}
use Rattle.std.proofs.lemmas.Bool.{le-leb, lt-leb, eq-eqb, cases_lt}
use Rattle.std.proofs.lemmas.List.Concat.{flat_map-append}
use Rattle.std.proofs.lemmas.List.Elements.{filter-append}
use Rattle.std.proofs.lemmas.List.Folds.{find-append}
use Rattle.common_laws.proofs.Members.{contains_here, contains_later, contains_cases, of_map, of_filter, of_flat_map}
use Rattle.index_model.specs.declared.shard.Node.{Node}
use Rattle.index_model.specs.declared.shard.Shard.{Shard}
use Rattle.index_model.specs.NodeSeen.{NodeSeen}
use Rattle.index_model.specs.Sections.{Section}
use Rattle.index_model.specs.Walk.{Item}
use Rattle.index_model.specs.Program.{Walked, Located, items_of, located}
use Rattle.index_model.specs.ShardParts.{IsSeenOf, node_facts, is_kept, kept_in, may_be_followed}
use Rattle.index_model.specs.Shards.{StandsFor}
use Rattle.index_model.specs.ShardLanguages.{first_some, first_node, node_in, NodesRise}
use Rattle.index_model.proofs.Pairs.{Pairs, all_pairs, pairs_append, pairs_filter}
use Rattle.index_model.proofs.ShardRoots.{Numbered, numbered_front, numbered_back, numbered_low, joined, map_or}

node_parts : (d : Located) (n : Node) → n ≡ node_facts d → (n.unit ≡ d.home.number) × (n.offset ≡ d.item.at)
unfolding node_facts
node_parts d n is = (ap (λ (x : Node). x.unit) is, ap (λ (x : Node). x.offset) is)

-- ---- nodes rise

abbrev UnitsRise : Located → Located → Type 0
UnitsRise d e = d.home.number ≤ e.home.number

abbrev NodeUnitsRise : NodeSeen → NodeSeen → Type 0
NodeUnitsRise m n = m.facts.unit ≤ n.facts.unit

-- the entries of one unit have its number
in_unit : (w : Walked) (d : Located) → Contains (located w) d → d.home ≡ w
in_unit w d c =
    let m = of_map (λ e. let l : Located = record { home = w; item = e } in l) (items_of w) d c in
    ap (λ (l : Located). l.home) (sym m.2)

same_units : (number : ℕ) (ds : List Located) → ((d : Located) → Contains ds d → d.home.number ≡ number) → Pairs UnitsRise ds
same_units number [] same = tt
same_units number (d ∷ ds) same = (λ e c. omega (arith, same d (contains_here d ds), same e (contains_later d ds e c)), same_units number ds (λ e c. same e (contains_later d ds e c)))

located_rise : (n : ℕ) (ws : List Walked) → Numbered n ws → Pairs UnitsRise (flat_map located ws)
located_rise n [] h = tt
located_rise n (w ∷ ws) h = pairs_append UnitsRise (located w) (flat_map located ws)
    (same_units w.number (located w) (λ d c. ap (λ (x : Walked). x.number) (in_unit w d c)))
    (located_rise (n + 1) ws h.1)
    (λ d e dc ec.
    let v = of_flat_map located ws e ec in
    omega (arith, h.0, ap (λ (x : Walked). x.number) (in_unit w d dc), ap (λ (x : Walked). x.number) (in_unit v.0 e v.2), numbered_low (n + 1) ws v.0 h.1 v.1))

module _ (ss : List Section) where
  node_of : (nodes : List NodeSeen) (ds : List Located) → AllZip (IsSeenOf ss) nodes ds → (n : NodeSeen) → Contains nodes n → (d : Located) × Contains ds d × (n.facts.unit ≡ d.home.number)
  node_of [] [] z n c = absurd (omega (arith, c.1))
  node_of [] (d ∷ ds) z n c = absurd z
  node_of (m ∷ ms) [] z n c = absurd z
  node_of (m ∷ ms) (d ∷ ds) z n c = ⊎_elim
      (λ (same : m ≡ n). (d, contains_here d ds, ap (λ (x : NodeSeen). x.facts.unit) (sym same) ∙ (node_parts d m.facts z.0.facts).0))
      (λ (l : Contains ms n). let r = node_of ms ds z.1 n l in (r.0, contains_later d ds r.0 r.1, r.2))
      (contains_cases m ms n c)

  nodes_rise : (nodes : List NodeSeen) (ds : List Located) → AllZip (IsSeenOf ss) nodes ds → Pairs UnitsRise ds → Pairs NodeUnitsRise nodes
  nodes_rise [] [] z h = tt
  nodes_rise [] (d ∷ ds) z h = absurd z
  nodes_rise (m ∷ ms) [] z h = absurd z
  nodes_rise (m ∷ ms) (d ∷ ds) z h = (
    λ n c. let r = node_of ms ds z.1 n c in let le = h.0 r.0 r.1 in omega (arith, le, r.2, (node_parts d m.facts z.0.facts).0),
    nodes_rise ms ds z.1 h.1,
  )

  rises : (s : Shard) (run : List Walked) (n : ℕ) → StandsFor ss s run → Numbered n run → NodesRise s
  rises s run n stands h i j d le within =
      let pairs = nodes_rise s.nodes (kept_in run) stands.nodes (pairs_filter UnitsRise (λ e. is_kept e.home e.item) (flat_map located run) (located_rise n run h)) in
      ⊎_elim
      (λ (lt : i < j). let r = all_pairs NodeUnitsRise s.nodes pairs i j d lt within in omega (arith, r))
      (λ (ge : j ≤ i). let same : i ≡ j = omega (arith, le, ge) in subst (λ (k : ℕ). (get_or s.nodes i d).facts.unit ≤ (get_or s.nodes k d).facts.unit) same (omega arith))
      (cases_lt i j)

  -- the nodes of every shard rise
  pub all_rise : (shards : List Shard) (runs : List (List Walked)) (n : ℕ) → AllZip (StandsFor ss) shards runs → Numbered n (joined runs) → All NodesRise shards
  all_rise [] [] n z h k d lt = absurd (omega arith)
  all_rise [] (run ∷ runs) n z h k d lt = absurd z
  all_rise (s ∷ shards) [] n z h k d lt = absurd z
  all_rise (s ∷ shards) (run ∷ runs) n z h zero d lt = rises s run n z.0 (numbered_front n run (joined runs) h)
  all_rise (s ∷ shards) (run ∷ runs) n z h (suc k) d lt = let back = numbered_back n run (joined runs) h in all_rise shards runs back.0 z.1 back.1 k d (omega arith)

-- ---- the first node of a unit

abbrev not_before : ℕ → Located → Bool
not_before unit d = leb unit d.home.number

abbrev pub place : Located → ℕ
place d = d.item.at

kept_append : (xs ys : List Walked) → kept_in (xs ++ ys) ≡ kept_in xs ++ kept_in ys
kept_append xs ys = ap (filter (λ d. is_kept d.home d.item)) (flat_map-append located xs ys) ∙ filter-append (λ d. is_kept d.home d.item) (flat_map located xs) (flat_map located ys)

module _ (ss : List Section) (unit : ℕ) where
  node_is : (nodes : List NodeSeen) (ds : List Located) → AllZip (IsSeenOf ss) nodes ds → first_node unit nodes ≡ option_map place (find (not_before unit) ds)
  node_is [] [] z = refl
  node_is [] (d ∷ ds) z = absurd z
  node_is (m ∷ ms) [] z = absurd z
  node_is (m ∷ ms) (d ∷ ds) z =
      let parts = node_parts d m.facts z.0.facts in
      ap (λ (k : ℕ). option_map (λ (n : NodeSeen). n.facts.offset) (cond (leb unit k) (Some m) (find (λ n. leb unit n.facts.unit) ms))) parts.0 ∙ by (not_before unit d) parts.1 (node_is ms ds z.1)
    where
      by : (b : Bool) → m.facts.offset ≡ d.item.at → first_node unit ms ≡ option_map place (find (not_before unit) ds) →
          option_map (λ (n : NodeSeen). n.facts.offset) (cond b (Some m) (find (λ n. leb unit n.facts.unit) ms)) ≡ option_map place (cond b (Some d) (find (not_before unit) ds))
      by true at rest = ap {B = Option ℕ} (λ (k : ℕ). Some k) at
      by false at rest = rest

  pub nodes_are : (shards : List Shard) (runs : List (List Walked)) → AllZip (StandsFor ss) shards runs → first_some (node_in unit) shards ≡ option_map place (find (not_before unit) (kept_in (joined runs)))
  nodes_are [] [] z = refl
  nodes_are [] (run ∷ runs) z = absurd z
  nodes_are (s ∷ shards) [] z = absurd z
  nodes_are (s ∷ shards) (run ∷ runs) z =
      let own = node_is s.nodes (kept_in run) z.0.nodes in
      let others = nodes_are shards runs z.1 in
      ap (λ (o : Option ℕ). option_or o (first_some (node_in unit) shards)) own ∙
      ap (option_or (option_map place (find (not_before unit) (kept_in run)))) others ∙
      map_or place (find (not_before unit) (kept_in run)) (find (not_before unit) (kept_in (joined runs))) ∙
      ap (option_map place) (sym (find-append (not_before unit) (kept_in run) (kept_in (joined runs))) ∙ ap (find (not_before unit)) (sym (kept_append run (joined runs))))

find_none : {A : Type 0} (p : A → Bool) (xs : List A) → ((x : A) → Contains xs x → p x ≡ false) → find p xs ≡ None
find_none p [] none = refl
find_none p (x ∷ xs) none = ap (λ (b : Bool). cond b (Some x) (find p xs)) (none x (contains_here x xs)) ∙ find_none p xs (λ y c. none y (contains_later x xs y c))

-- a root is the first node of its unit
module _ (w : Walked) (r : Item) (rest : List Item) (items : items_of w ≡ r ∷ rest) (top : r.depth ≡ 0) where
  abbrev root : Located
  root = record { home = w; item = r }

  root_kept : is_kept w r ≡ true
  root_kept = ap (λ (b : Bool). b || may_be_followed w r) (eq-eqb r.depth 0 top)

  abbrev kept_of : List Located → List Located
  kept_of = filter (λ d. is_kept d.home d.item)

  root_first : (ws : List Walked) → find (not_before w.number) (kept_in (w ∷ ws)) ≡ Some root
  root_first ws =
      let others = map (λ e. let l : Located = record { home = w; item = e } in l) rest ++ flat_map located ws in
      let split : flat_map located (w ∷ ws) ≡ root ∷ others = ap (λ (ds : List Item). map (λ e. let l : Located = record { home = w; item = e } in l) ds ++ flat_map located ws) items in
      ap (λ (ds : List Located). find (not_before w.number) (kept_of ds)) split ∙
      ap (λ (b : Bool). find (not_before w.number) (cond b (root ∷ kept_of others) (kept_of others))) root_kept ∙
      ap (λ (b : Bool). cond b (Some root) (find (not_before w.number) (kept_of others))) (le-leb w.number w.number (omega arith))

  pub root_found : (n : ℕ) (ws : List Walked) → Numbered n ws → Contains ws w → find (not_before w.number) (kept_in ws) ≡ Some root
  root_found n [] h c = absurd (omega (arith, c.1))
  root_found n (v ∷ vs) h c = ⊎_elim
      (λ (same : v ≡ w). subst (λ (x : Walked). find (not_before w.number) (kept_in (x ∷ vs)) ≡ Some root) (sym same) (root_first vs))
      (λ (l : Contains vs w).
      let low = numbered_low (n + 1) vs w h.1 l in
      let own = kept_of (located v) in
      let none : find (not_before w.number) own ≡ None = find_none (not_before w.number) own (λ d dc.
      let m = of_filter (λ e. is_kept e.home e.item) (located v) d dc in
      lt-leb w.number d.home.number (omega (arith, low, h.0, ap (λ (x : Walked). x.number) (in_unit v d m.0)))) in
      ap (find (not_before w.number)) (filter-append (λ d. is_kept d.home d.item) (located v) (flat_map located vs)) ∙
      find-append (not_before w.number) own (kept_in vs) ∙
      ap (λ (o : Option Located). option_or o (find (not_before w.number) (kept_in vs))) none ∙
      root_found (n + 1) vs h.1 l)
      (contains_cases v vs w c)

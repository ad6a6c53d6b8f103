-- There are no more entries than bytes twice over, and no simple name is longer than its name.
use Rattle.std.proofs.Common.{◌≡◌, ◌⊎◌, ℕ, zero, suc, ◌+◌, ◌*◌, ◌<◌, ◌≤◌, ◌^◌, Bool, true, false, not, ◌&&◌, ◌||◌, cond, List, [], ◌∷◌, flat_map, length, length-append, get_or, Option, Some, None, Ok, refl, sym, ap, subst, ◌∙◌, arith, ⊎_elim}
use Rattle.std.specs.Prelude.{Contains, option_map, option_to_list, unwrap_or, bytes_eq}
use Rattle.std.proofs.lemmas.Bool.{true≢false}
use Rattle.std.proofs.lemmas.List.Elements.{Contains-get_or}
use Rattle.std.proofs.lemmas.Option.{cond_some}
use Rattle.common_laws.proofs.Members.{contains_here, contains_later, contains_cases, of_filter, of_flat_map}
use Rattle.index_model.specs.declared.entry.Entry.{Entry}
use Rattle.index_model.specs.declared.unit.Unit.{Unit as UnitHeader}
use Rattle.index_model.specs.Chains.{linkage_name_of}
use Rattle.index_model.specs.Entries.{entry_of, may_have_linkage, linkage_entry_of, entries_of_link, entries_of}
use Rattle.index_model.specs.Faults.{program_of}
use Rattle.index_model.specs.Languages.{class_of_unit}
use Rattle.index_model.specs.Links.{Link, link_of, links_in, followed, is_link_indexed, indexed_in, name_in, qualified_of, is_within_limit}
use Rattle.index_model.specs.Meaning.{at_place}
use Rattle.index_model.specs.Names.{simple_name, qualified_name}
use Rattle.index_model.specs.Program.{Walked, Program, items_of, joint}
use Rattle.index_model.specs.Rules.{is_ada}
use Rattle.index_model.specs.Sections.{Section}
use Rattle.index_model.proofs.LinkLaws.{Earlier, links_rise}
use Rattle.index_model.proofs.OrderLaws.{walks_in_order}
use Rattle.index_model.proofs.Pairs.{Pairs, On}
use Rattle.index_model.proofs.Scans.{AreScans, scanned_walked, program_parts}
use Rattle.index_model.proofs.UnitsApart.{Apart, pairs_cases, program_apart, walk_parts}
use Rattle.index_model.proofs.VisitedLaws.{visited_by_parent}
use Rattle.index_model.proofs.Meanings.{at_place_ok}
use Rattle.query_engine.specs.Asked.{TailsFit}
use Rattle.shard_build.proofs.UnitPlaces.{unit_ends}
use Rattle.qualified_names.proofs.LinkLaws.{link_parts, has_name, named}
use Rattle.index_pool.proofs.Owners.{each_member, in_optional, link_is_followed}

-- ---- numbers that rise within bounds are no more than the bounds allow

few_within : {A : Type 0} (at : A → ℕ) (low high : ℕ) (xs : List A) → Pairs (λ x y. at x < at y) xs → ((x : A) → Contains xs x → (low ≤ at x) × (at x < high)) → low ≤ high → low + length xs ≤ high
few_within at low high [] h within le = omega (arith, le)
few_within at low high (x ∷ xs) h within le =
    let here = within x (contains_here x xs) in
    let rest = few_within at (suc (at x)) high xs h.1 (λ y c. (omega (arith, h.0 y c), (within y (contains_later x xs y c)).1)) (omega (arith, here.1)) in
    omega (arith, rest, here.0)

weaker : {A : Type 0} (R S : A → A → Type 0) (xs : List A) → Pairs R xs → ((x y : A) → Contains xs x → Contains xs y → R x y → S x y) → Pairs S xs
weaker R S [] h f = tt
weaker R S (x ∷ xs) h f = (λ y c. f x y (contains_here x xs) (contains_later x xs y c) (h.0 y c), weaker R S xs h.1 (λ y z yc zc r. f y z (contains_later x xs y yc) (contains_later x xs z zc) r))

-- ---- the links of a file

module _ (f : List ℕ) (p : Program) (file : program_of f ≡ Ok p) (ks : List Link) (is : links_in p p.walks ≡ Ok ks) where
  -- an entry whose references are followed stands behind its unit's header, and isn't a root
  pub record Stands (k : Link) : Type 0 where
    pub home : Contains p.walks k.entry.home
    pub begins : k.entry.home.unit.start ≤ k.entry.item.at
    pub not_first : 0 < k.entry.item.at
    pub ends : k.entry.item.at < k.entry.home.unit.start + k.entry.home.unit.length

  pub stands : (k : Link) → Contains ks k → Stands k
  stands k c =
      let l = link_is_followed p p.walks ks is k c in
      let walk = (program_apart f p file).walks k.entry.home l.home in
      let order = walks_in_order p.sections walk.0 k.entry.home walk.1 in
      let inside = order.inside k.entry.item l.item in
      let by_parent = visited_by_parent (is_ada (class_of_unit p k.entry.home)) (items_of k.entry.home) k.entry.item in
      let deep : 0 < k.entry.item.depth = positive k.entry.item.depth (λ e. true≢false (sym l.visited ∙ by_parent.root e)) in
      let parent = order.parents k.entry.item l.item deep in
      record { home = l.home; begins = omega (arith, inside.begins); not_first = omega (arith, parent.earlier); ends = omega (arith, inside.some, inside.ends) }
    where
      positive : (n : ℕ) → (n ≡ 0 → ⊥) → 0 < n
      positive zero off = absurd (off refl)
      positive (suc n) off = omega arith

  rises : (k l : Link) → Contains ks k → Contains ks l → Earlier k.entry l.entry → k.entry.item.at < l.entry.item.at
  rises k l kc lc e =
      let a = stands k kc in
      let b = stands l lc in
      let apart = (program_apart f p file).apart in
      ⊎_elim
      (λ (lt : k.entry.home.number < l.entry.home.number). ⊎_elim
      (λ (same : k.entry.home ≡ l.entry.home). absurd (omega (arith, lt, ap (λ (w : Walked). w.number) same)))
      (λ (one : Apart k.entry.home l.entry.home ⊎ Apart l.entry.home k.entry.home). ⊎_elim
      (λ (first : Apart k.entry.home l.entry.home). omega (arith, first.1, a.ends, b.begins))
      (λ (other : Apart l.entry.home k.entry.home). absurd (omega (arith, other.0, lt)))
      one)
      (pairs_cases Apart p.walks apart k.entry.home l.entry.home a.home b.home))
      (λ (s : (k.entry.home.number ≡ l.entry.home.number) × (k.entry.item.at < l.entry.item.at)). s.1)
      e

  within : (k : Link) → Contains ks k → (1 ≤ k.entry.item.at) × (k.entry.item.at < length (joint p.sections))
  within k c =
      let s = stands k c in
      let parts = program_parts f p file in
      let member : Contains parts.0 k.entry.home.unit = unit_of p.sections 0 parts.0 p.walks parts.3 k.entry.home s.home in
      let ends = unit_ends p.sections parts.0 parts.2 k.entry.home.unit member in
      (omega (arith, s.not_first), omega (arith, s.ends, ends))
    where
      unit_of : (ss : List Section) (n : ℕ) (us : List UnitHeader) (ws : List Walked) → AreScans ss n us ws → (w : Walked) → Contains ws w → Contains us w.unit
      unit_of ss n [] [] h w c = absurd (omega (arith, c.1))
      unit_of ss n [] (v ∷ vs) h w c = absurd h
      unit_of ss n (u ∷ us) [] h w c = absurd h
      unit_of ss n (u ∷ us) (v ∷ vs) h w c = ⊎_elim
          (λ (same : v ≡ w). subst (Contains (u ∷ us)) (sym (walk_parts ss (n, u) v (scanned_walked ss (n, u) v h.0).0).1 ∙ ap (λ (x : Walked). x.unit) same) (contains_here u us))
          (λ (later : Contains vs w). contains_later u us w.unit (unit_of ss (n + 1) us vs h.1 w later))
          (contains_cases v vs w c)

  pub few_links : (k : Link) → Contains ks k → 1 + length ks ≤ length (joint p.sections)
  few_links k c =
      let parts = program_parts f p file in
      let earlier = links_rise p p.sections 0 parts.0 p.walks ks parts.3 is in
      let w = within k c in
      few_within (λ (x : Link). x.entry.item.at) 1 (length (joint p.sections)) ks (weaker (On Earlier (λ (x : Link). x.entry)) (λ x y. x.entry.item.at < y.entry.item.at) ks earlier rises) within (omega (arith, w))

-- ---- entries

two_at_most : (o : Option Entry) → length (option_to_list o) ≤ 1
two_at_most None = omega arith
two_at_most (Some e) = omega arith

module _ (p : Program) where
  entries_count : (ks : List Link) → length (flat_map (entries_of_link p) ks) ≤ 2 * length ks
  unfolding entries_of_link
  entries_count [] = omega arith
  entries_count (k ∷ ks) =
      let o = linkage_entry_of (entry_of k) (linkage_name_of p k.chain) in
      omega (arith, length-append (entries_of_link p k) (flat_map (entries_of_link p) ks), two_at_most o, entries_count ks)

  filter_count : (ks : List Link) → length (indexed_in ks) ≤ length ks
  filter_count [] = omega arith
  filter_count (k ∷ ks) = by (is_link_indexed k) (filter_count ks)
    where
      by : (b : Bool) → length (indexed_in ks) ≤ length ks → length (cond b (k ∷ indexed_in ks) (indexed_in ks)) ≤ suc (length ks)
      by true le = omega (arith, le)
      by false le = omega (arith, le)

  pub few_entries : (f : List ℕ) → program_of f ≡ Ok p → (ks : List Link) → links_in p p.walks ≡ Ok ks → length (joint p.sections) ≤ 2 ^ 31 → length (entries_of p ks) < 2 ^ 32
  unfolding entries_of
  few_entries f file [] is small = omega arith
  few_entries f file (k ∷ ks) is small =
      omega (arith, entries_count (indexed_in (k ∷ ks)), filter_count (k ∷ ks), few_links f p file (k ∷ ks) is k (contains_here k ks), small)

  -- ---- tails

  tail_fits : (k : Link) (name : List ℕ) → name_in k ≡ Some name → is_link_indexed k ≡ true → (not (is_link_indexed k) || is_within_limit (qualified_of k)) ≡ true → (entry_of k).tail ≤ length (entry_of k).name
  unfolding entry_of
  tail_fits k name at on short =
      let n = named k name at on short in
      let tail : length (unwrap_or (option_map (simple_name k.class) (name_in k)) []) ≡ length (simple_name k.class name) = ap length n.tail in
      let whole : length (unwrap_or (qualified_of k) []) ≡ length (qualified_name k.class k.path name) = ap (λ (o : Option (List ℕ)). length (unwrap_or o [])) n.qualified in
      omega (arith, tail, whole, n.simple)

  linkage_fits : (e n : Entry) (name : Option (List ℕ)) → linkage_entry_of e name ≡ Some n → n.tail ≤ length n.name
  unfolding linkage_entry_of
  linkage_fits e n None is = absurd (cc is)
  linkage_fits e n (Some name) is =
      let r = cond_some (may_have_linkage e.tag && not (bytes_eq name e.name)) (record e { linkage = true; name = name; tail = 0 }) n is in
      subst (λ (x : Entry). x.tail ≤ length x.name) r.1 (omega arith)

  entry_fits : (ws : List Walked) (ks : List Link) → links_in p ws ≡ Ok ks → (e : Entry) → Contains (entries_of p ks) e → e.tail ≤ length e.name
  unfolding entries_of entries_of_link links_in
  entry_fits ws ks is e c =
      let k = of_flat_map (entries_of_link p) (indexed_in ks) e c in
      let l = of_filter is_link_indexed ks k.0 k.1 in
      let m = each_member (λ d. at_place d.item.at (link_of p d)) (flat_map (followed p) ws) ks is k.0 l.0 in
      let parts = link_parts p m.0 k.0 (at_place_ok m.0.item.at (link_of p m.0) k.0 m.2) in
      let name = has_name k.0 l.1 in
      ⊎_elim
      (λ (same : entry_of k.0 ≡ e). subst (λ (x : Entry). x.tail ≤ length x.name) same (tail_fits k.0 name.0 name.1 l.1 parts.within))
      (λ (later : Contains (option_to_list (linkage_entry_of (entry_of k.0) (linkage_name_of p k.0.chain))) e). linkage_fits (entry_of k.0) e (linkage_name_of p k.0.chain) (in_optional p (linkage_entry_of (entry_of k.0) (linkage_name_of p k.0.chain)) e later))
      (contains_cases (entry_of k.0) (option_to_list (linkage_entry_of (entry_of k.0) (linkage_name_of p k.0.chain))) e k.2)

  pub tails_fit : (ws : List Walked) (ks : List Link) → links_in p ws ≡ Ok ks → TailsFit (entries_of p ks)
  tails_fit ws ks is i d lt = entry_fits ws ks is (get_or (entries_of p ks) i d) (Contains-get_or (entries_of p ks) i d lt)

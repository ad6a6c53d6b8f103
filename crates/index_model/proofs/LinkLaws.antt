-- The entries whose references are followed stand in section order.
use Rattle.std.proofs.Common.{◌≡◌, ℕ, ◌+◌, ◌<◌, ◌≤◌, Bool, ◌&&◌, List, [], ◌∷◌, Ok, refl, sym, ap, subst, arith, inl, inr, ⊎_elim}
use Rattle.std.specs.Prelude.{Contains, flat_map}
use mathlib.Core.Logic.{◌⊎◌}
use Rattle.common_laws.proofs.Members.{contains_cases, of_map, of_filter, of_flat_map}
use Rattle.index_model.specs.declared.unit.Unit.{Unit as UnitHeader}
use Rattle.index_model.specs.Sections.{Section}
use Rattle.index_model.specs.Program.{Walked, Program, Located, items_of, located}
use Rattle.index_model.specs.Languages.{class_of_unit}
use Rattle.index_model.specs.Rules.{is_in_table, is_visited, is_ada}
use Rattle.index_model.specs.Links.{Link, followed, links_in}
use Rattle.index_model.specs.Faults.{scanned}
use Rattle.index_model.proofs.Scans.{AreScans, scanned_walked, walked_read}
use Rattle.index_model.proofs.ParentLaws.{Rise}
use Rattle.index_model.proofs.OrderLaws.{walk_rises}
use Rattle.index_model.proofs.Pairs.{Pairs, On, pairs_append, pairs_filter, pairs_map, pairs_of_map, pairs_weaker}
use Rattle.index_model.proofs.Located.{items_rise, ItemsRise, at_home}
use Rattle.index_model.proofs.Followed.{links_are}

-- in section order
abbrev pub Earlier : Located → Located → Type 0
Earlier a b = (a.home.number < b.home.number) ⊎ ((a.home.number ≡ b.home.number) × (a.item.at < b.item.at))

located_pairs : (n : ℕ) (w : Walked) → Rise n (items_of w) → Pairs Earlier (located w)
located_pairs n w r = pairs_map Earlier (at_home w) (items_of w) (pairs_weaker ItemsRise (On Earlier (at_home w)) (λ d e lt. inr (refl, lt)) (items_of w) (items_rise n (items_of w) r))

module _ (p : Program) where
  abbrev is_followed : Walked → Located → Bool
  is_followed w d = is_in_table d.item.tag && is_visited (is_ada (class_of_unit p w)) (items_of w) d.item

  followed_pairs : (n : ℕ) (w : Walked) → Rise n (items_of w) → Pairs Earlier (followed p w)
  unfolding followed
  followed_pairs n w r = pairs_filter Earlier (is_followed w) (located w) (located_pairs n w r)

  followed_home : (w : Walked) (d : Located) → Contains (followed p w) d → d.home ≡ w
  unfolding followed
  followed_home w d c =
      let l = (of_filter (is_followed w) (located w) d c).0 in
      let m = of_map (at_home w) (items_of w) d l in
      ap (λ (x : Located). x.home) (sym m.2)

  scanned_number : (ss : List Section) (u : ℕ × UnitHeader) (w : Walked) → scanned ss u ≡ Ok w → w.number ≡ u.0
  scanned_number ss u w is = ap (λ (v : Walked). v.number) (sym (walked_read ss u w (scanned_walked ss u w is).0).1)

  numbers_from : (ss : List Section) (n : ℕ) (us : List UnitHeader) (ws : List Walked) (w : Walked) → AreScans ss n us ws → Contains ws w → n ≤ w.number
  numbers_from ss n [] [] w h c = absurd (omega (arith, c.1))
  numbers_from ss n [] (v ∷ ws) w h c = absurd h
  numbers_from ss n (u ∷ us) [] w h c = absurd h
  numbers_from ss n (u ∷ us) (v ∷ ws) w h c = ⊎_elim
      (λ (e : v ≡ w). omega (arith, scanned_number ss (n, u) v h.0, ap (λ (x : Walked). x.number) e))
      (λ (l : Contains ws w). omega (arith, numbers_from ss (n + 1) us ws w h.1 l))
      (contains_cases v ws w c)

  -- what is followed in these units
  pub all_followed : (ss : List Section) (n : ℕ) (us : List UnitHeader) (ws : List Walked) → AreScans ss n us ws → Pairs Earlier (flat_map (followed p) ws)
  all_followed ss n [] [] h = tt
  all_followed ss n [] (w ∷ ws) h = absurd h
  all_followed ss n (u ∷ us) [] h = absurd h
  all_followed ss n (u ∷ us) (w ∷ ws) h =
      let r = walk_rises ss (n, u) w (scanned_walked ss (n, u) w h.0).0 in
      let own = scanned_number ss (n, u) w h.0 in
      pairs_append Earlier (followed p w) (flat_map (followed p) ws) (followed_pairs r.0 w r.1) (all_followed ss (n + 1) us ws h.1) (λ x y xc yc.
      let xw = ap (λ (v : Walked). v.number) (followed_home w x xc) in
      let m = of_flat_map (followed p) ws y yc in
      let yw = ap (λ (v : Walked). v.number) (followed_home m.0 y m.2) in
      inl (omega (arith, xw, yw, own, numbers_from ss (n + 1) us ws m.0 h.1 m.1)))

  -- the links of these units
  pub links_rise : (ss : List Section) (n : ℕ) (us : List UnitHeader) (ws : List Walked) (ks : List Link) → AreScans ss n us ws → links_in p ws ≡ Ok ks → Pairs (On Earlier (λ (k : Link). k.entry)) ks
  unfolding links_in
  links_rise ss n us ws ks h is = pairs_of_map Earlier (λ (k : Link). k.entry) ks (subst (Pairs Earlier) (sym (links_are p (flat_map (followed p) ws) ks is).entries) (all_followed ss n us ws h))

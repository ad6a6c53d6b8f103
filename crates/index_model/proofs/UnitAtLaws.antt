-- The ranges of a file stand in section order, so the first unit is the least.
use Rattle.std.proofs.Common.{◌≡◌, ℕ, ◌+◌, ◌≤◌, true, false, cond, List, [], ◌∷◌, ◌++◌, Option, Some, None, Ok, refl, sym, ap, subst, arith, ⊎_elim, ◌∙◌}
use Rattle.std.specs.Prelude.{Contains, map, flat_map, find, option_map}
use Rattle.std.proofs.lemmas.Bool.{false≢true}
use Rattle.common_laws.proofs.Members.{contains_here, contains_later, contains_cases}
use Rattle.index_model.specs.declared.range.Range.{Range}
use Rattle.index_model.specs.declared.range.UnitRange.{UnitRange}
use Rattle.index_model.specs.declared.unit.Unit.{Unit as UnitHeader}
use Rattle.index_model.specs.Meaning.{each}
use Rattle.index_model.specs.Sections.{Section}
use Rattle.index_model.specs.Program.{Walked, Program}
use Rattle.index_model.specs.Links.{Link}
use Rattle.index_model.specs.Ranges.{contains, unit_at, ranges_of, unit_ranges, ranges_in}
use Rattle.index_model.specs.Faults.{Built, scanned, program_of, links_of, all_ranges, built_of}
use Rattle.index_model.specs.LawsRanges.{IsLeastUnit, UnitAtIsLeast}
use Rattle.index_model.proofs.Scans.{AreScans, scanned_walked, walked_read, program_parts}
use Rattle.index_model.proofs.Meanings.{bind_ok, same_ok}

-- the units rise, from n on
abbrev Rises : ℕ → List UnitRange → Type 0
Rises n [] = Unit {0}
Rises n (u ∷ us) = (n ≤ u.unit) × Rises u.unit us

rises_below : (n : ℕ) (us : List UnitRange) (v : UnitRange) → Rises n us → Contains us v → n ≤ v.unit
rises_below n [] v r (k, l, e) = absurd (omega (arith, l))
rises_below n (u ∷ us) v r c = ⊎_elim (λ (e : u ≡ v). omega (arith, ap (λ (w : UnitRange). w.unit) e, r.0)) (λ (d : Contains us v). omega (arith, r.0, rises_below u.unit us v r.1 d)) (contains_cases u us v c)

module _ (a : ℕ) where
  abbrev first : List UnitRange → Option ℕ
  first us = option_map (λ u. u.unit) (find (λ u. contains a u.range) us)

  later : (u : UnitRange) (us : List UnitRange) (o : Option ℕ) → contains a u.range ≡ false → IsLeastUnit us a o → IsLeastUnit (u ∷ us) a o
  later u us None not h = λ v c yes. ⊎_elim (λ (e : u ≡ v). false≢true (sym not ∙ ap (λ (w : UnitRange). contains a w.range) e ∙ yes)) (λ (d : Contains us v). h v d yes) (contains_cases u us v c)
  later u us (Some n) not h = (h.0, contains_later u us h.0 h.1, h.2, h.3, λ v c yes. ⊎_elim (λ (e : u ≡ v). absurd (false≢true (sym not ∙ ap (λ (w : UnitRange). contains a w.range) e ∙ yes))) (λ (d : Contains us v). h.4 v d yes) (contains_cases u us v c))

  pub least : (n : ℕ) (us : List UnitRange) → Rises n us → IsLeastUnit us a (first us)
  least n [] r = λ v c yes. absurd (omega (arith, c.1))
  least n (u ∷ us) r =
      elim (contains a u.range) as (λ b. contains a u.range ≡ b → IsLeastUnit (u ∷ us) a (option_map (λ u. u.unit) (cond b (Some u) (find (λ u. contains a u.range) us)))) [
        | true ↦ λ yes. (u, contains_here u us, yes, refl, λ v c _. ⊎_elim (λ (e : u ≡ v). omega (arith, ap (λ (w : UnitRange). w.unit) e)) (λ (d : Contains us v). rises_below u.unit us v r.1 d) (contains_cases u us v c))
        | false ↦ λ no. later u us (first us) no (least u.unit us r.1)
      ] refl

-- ---- the ranges of a file rise

-- the numbers of the units, one after the other
abbrev Numbered : ℕ → List Walked → Type 0
Numbered n [] = Unit {0}
Numbered n (w ∷ ws) = (w.number ≡ n) × Numbered (n + 1) ws

scanned_number : (ss : List Section) (u : ℕ × UnitHeader) (w : Walked) → scanned ss u ≡ Ok w → w.number ≡ u.0
scanned_number ss u w is =
    let p = scanned_walked ss u w is in
    let q = walked_read ss u w p.0 in
    ap (λ (v : Walked). v.number) (sym q.1)

numbered : (ss : List Section) (n : ℕ) (us : List UnitHeader) (ws : List Walked) → AreScans ss n us ws → Numbered n ws
numbered ss n [] [] h = tt
numbered ss n [] (w ∷ ws) h = absurd h
numbered ss n (u ∷ us) [] h = absurd h
numbered ss n (u ∷ us) (w ∷ ws) h = (scanned_number ss (n, u) w h.0, numbered ss (n + 1) us ws h.1)

rises_from : (n m : ℕ) (us : List UnitRange) → n ≤ m → Rises m us → Rises n us
rises_from n m [] le r = tt
rises_from n m (u ∷ us) le r = (omega (arith, le, r.0), r.1)

abbrev of_unit : ℕ → Range → UnitRange
of_unit n r = record { unit = n; range = r }

rises_before : (n : ℕ) (rs : List Range) (us : List UnitRange) → Rises n us → Rises n (map (of_unit n) rs ++ us)
rises_before n [] us r = r
rises_before n (x ∷ rs) us r = (omega arith, rises_before n rs us r)

abbrev joined : List (List UnitRange) → List UnitRange
joined = flat_map (λ r. r)

ranges_rise : (p : Program) (ks : List Link) (n : ℕ) (ws : List Walked) (rss : List (List UnitRange)) → Numbered n ws → each (unit_ranges p ks) ws ≡ Ok rss → Rises n (joined rss)
unfolding unit_ranges
ranges_rise p ks n [] rss h is = subst (λ (x : List (List UnitRange)). Rises n (joined x)) (same_ok [] rss is) tt
ranges_rise p ks n (w ∷ ws) rss h is =
    let a = bind_ok (unit_ranges p ks w) _ rss is in
    let b = bind_ok (each (unit_ranges p ks) ws) _ rss a.2 in
    let c = bind_ok (ranges_of p ks w) _ a.0 a.1 in
    let others : Rises n (joined b.0) = rises_from n (n + 1) (joined b.0) (omega arith) (ranges_rise p ks (n + 1) ws b.0 h.1 b.1) in
    let mine : Rises n (map (of_unit w.number) c.0 ++ joined b.0) = subst (λ (m : ℕ). Rises n (map (of_unit m) c.0 ++ joined b.0)) (sym h.0) (rises_before n c.0 (joined b.0) others) in
    let here : Rises n (a.0 ++ joined b.0) = subst (λ (x : List UnitRange). Rises n (x ++ joined b.0)) (same_ok (map (of_unit w.number) c.0) a.0 c.2) mine in
    subst (λ (x : List (List UnitRange)). Rises n (joined x)) (same_ok (a.0 ∷ b.0) rss b.2) here

program_numbered : (f : List ℕ) (p : Program) → program_of f ≡ Ok p → Numbered 0 p.walks
program_numbered f p is = let h = program_parts f p is in numbered p.sections 0 h.0 p.walks h.3

file_rises : (f : List ℕ) (b : Built) → built_of f ≡ Ok b → Rises 0 b.ranges
unfolding built_of all_ranges ranges_in
file_rises f b is =
    let p = bind_ok (program_of f) _ b is in
    let k = bind_ok (links_of p.0) _ b p.2 in
    let r = bind_ok (all_ranges p.0 k.0) _ b k.2 in
    let e = bind_ok (each (unit_ranges p.0 k.0) p.0.walks) _ r.0 r.1 in
    let rises : Rises 0 (joined e.0) = ranges_rise p.0 k.0 0 p.0.walks e.0 (program_numbered f p.0 p.1) e.1 in
    subst (λ (x : Built). Rises 0 x.ranges) (same_ok _ b r.2) (subst (Rises 0) (same_ok (joined e.0) r.0 e.2) rises)

pub unit_at_least : UnitAtIsLeast
unfolding unit_at
unit_at_least f b a is = least a 0 b.ranges (file_rises f b is)

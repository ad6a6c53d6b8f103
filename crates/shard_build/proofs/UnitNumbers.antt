-- The units of a file by their numbers: which shard has one, and in which an entry stands.
use Rattle.std.proofs.Common.{◌≡◌, ℕ, zero, suc, ◌+◌, ◌-◌, ◌<◌, ◌≤◌, true, leb, ltb, List, [], ◌∷◌, ◌++◌, map, length, get_or, Ok, refl, sym, ap, subst, ◌∙◌, arith, ⊎_elim}
use Rattle.std.specs.Prelude.{Contains}
use Rattle.std.specs.List.{AllZip}
use Rattle.std.specs.List.Sorted.{IsNonDecreasingBy}
use Rattle.std.proofs.lemmas.Bool.{and_parts, and_from, leb-true, le-leb, ltb-true, lt-ltb, cases_lt}
use Rattle.std.proofs.lemmas.List.{get_or-map, length-map}
use Rattle.std.proofs.lemmas.List.Elements.{Contains-get_or, Contains-append_cases}
use mathlib.Core.Logic.{◌⊎◌}
use Rattle.common_laws.proofs.Members.{contains_here, contains_later}
use Rattle.index_model.specs.declared.shard.Root.{Root}
use Rattle.index_model.specs.declared.shard.Shard.{Shard}
use Rattle.index_model.specs.declared.unit.Unit.{Unit as UnitHeader}
use Rattle.index_model.specs.Faults.{program_of}
use Rattle.index_model.specs.Program.{Walked, Program, items_of}
use Rattle.index_model.specs.Sections.{Section}
use Rattle.index_model.specs.ShardParts.{root_facts}
use Rattle.index_model.specs.Shards.{StandsFor, AreShardsOf, IsRunOf, first_number}
use Rattle.index_model.specs.Units.{units_of}
use Rattle.index_model.specs.Walk.{Item}
use Rattle.index_model.proofs.Meanings.{same_ok}
use Rattle.index_model.proofs.OrderLaws.{walks_in_order}
use Rattle.index_model.proofs.Pairs.{Pairs, On, all_pairs, pairs_map, pairs_weaker}
use Rattle.index_model.proofs.Scans.{AreScans, scanned_walked, program_parts}
use Rattle.index_model.proofs.ShardRoots.{Numbered, joined, program_numbered, numbered_front, numbered_back}
use Rattle.index_model.proofs.UnitsApart.{Apart, pairs_cases, walk_parts, program_apart}
use Rattle.file_image.specs.Images.{Image, image_of}
use Rattle.file_image.proofs.Images.{parts_of}
use Rattle.shard_build.specs.Found.{has_unit}

-- ---- numbers

-- the number of the walk at a place
number_at : (n : ℕ) (ws : List Walked) (k : ℕ) (d : Walked) → Numbered n ws → k < length ws → (get_or ws k d).number ≡ n + k
number_at n [] k d h lt = absurd (omega arith)
number_at n (w ∷ ws) zero d h lt = omega (arith, h.0)
number_at n (w ∷ ws) (suc k) d h lt = let later = number_at (n + 1) ws k d h.1 (omega (arith, lt)) in omega (arith, later)

-- the place of a walk
place_of : (n : ℕ) (ws : List Walked) (w : Walked) → Numbered n ws → Contains ws w → (k : ℕ) × (k < length ws) × (w.number ≡ n + k) × (get_or ws k w ≡ w)
place_of n ws w h (k, lt, at) = (k, lt, ap (λ (v : Walked). v.number) (sym at) ∙ number_at n ws k w h lt, at)

-- ---- shards

module _ (s : Shard) (run : List Walked) (n : ℕ) (h : Numbered n run) (size : length s.roots ≡ length run) where
  first_is : (run : List Walked) → Numbered n run → first_number run s.first → 0 < length run → s.first ≡ n
  first_is [] h first some = absurd (omega arith)
  first_is (w ∷ ws) h first some = first ∙ h.0

  module _ (first : first_number run s.first) where
    -- a unit of the run is one of the shard's
    run_has : (w : Walked) → Contains run w → has_unit w.number s ≡ true
    run_has w c =
        let p = place_of n run w h c in
        let begins = first_is run h first (omega (arith, p.1)) in
        and_from (leb s.first w.number) (ltb (w.number - s.first) (length s.roots)) (le-leb s.first w.number (omega (arith, begins, p.2))) (lt-ltb (w.number - s.first) (length s.roots) (omega (arith, begins, p.2, p.1, size)))

    -- a unit of the shard is one of the run
    has_run : (u : ℕ) → has_unit u s ≡ true → (w : Walked) × Contains run w × (w.number ≡ u)
    has_run u on =
        let parts = and_parts (leb s.first u) (ltb (u - s.first) (length s.roots)) on in
        let low = leb-true s.first u parts.0 in
        let high = ltb-true (u - s.first) (length s.roots) parts.1 in
        let begins = first_is run h first (omega (arith, high, size)) in
        by_run run h (u - n) (omega (arith, high, size, begins)) (omega (arith, low, begins))
      where
        by_run : (ws : List Walked) → Numbered n ws → (k : ℕ) → k < length ws → n + k ≡ u → (w : Walked) × Contains ws w × (w.number ≡ u)
        by_run [] h k lt is = absurd (omega arith)
        by_run (w ∷ ws) h k lt is = (get_or (w ∷ ws) k w, Contains-get_or (w ∷ ws) k w lt, number_at n (w ∷ ws) k w h lt ∙ is)

module _ (ss : List Section) where
  sizes : (s : Shard) (run : List Walked) → StandsFor ss s run → length s.roots ≡ length run
  sizes s run stands = ap (λ (rs : List Root). length rs) stands.roots ∙ length-map run root_facts

  -- each unit is one of some shard's
  shard_of_unit : (shards : List Shard) (runs : List (List Walked)) (n : ℕ) → AllZip (StandsFor ss) shards runs → Numbered n (joined runs) → (w : Walked) → Contains (joined runs) w → (s : Shard) × Contains shards s × (has_unit w.number s ≡ true)
  shard_of_unit [] [] n z h w c = absurd (omega (arith, c.1))
  shard_of_unit [] (run ∷ runs) n z h w c = absurd z
  shard_of_unit (s ∷ shards) [] n z h w c = absurd z
  shard_of_unit (s ∷ shards) (run ∷ runs) n z h w c =
      let own = numbered_front n run (joined runs) h in
      let back = numbered_back n run (joined runs) h in
      ⊎_elim
      (λ (l : Contains run w). (s, contains_here s shards, run_has s run n own (sizes s run z.0) z.0.first w l))
      (λ (r : Contains (joined runs) w). let x = shard_of_unit shards runs back.0 z.1 back.1 w r in (x.0, contains_later s shards x.0 x.1, x.2))
      (Contains-append_cases run (joined runs) w c)

module _ (f : List ℕ) (p : Program) (is : program_of f ≡ Ok p) where
  numbered : Numbered 0 p.walks
  numbered = program_numbered f p is

  -- a number is that of one unit
  pub same_number : (v w : Walked) → Contains p.walks v → Contains p.walks w → v.number ≡ w.number → v ≡ w
  same_number v w vc wc same = ⊎_elim
      (λ (e : v ≡ w). e)
      (λ (apart : Apart v w ⊎ Apart w v). absurd (⊎_elim (λ (l : Apart v w). omega (arith, l.0, same)) (λ (r : Apart w v). omega (arith, r.0, same)) apart))
      (pairs_cases Apart p.walks (program_apart f p is).apart v w vc wc)

  -- where no shard has a number no unit has it
  pub some_shard : (shards : List Shard) → AreShardsOf p shards → (w : Walked) → Contains p.walks w → (s : Shard) × Contains shards s × (has_unit w.number s ≡ true)
  some_shard shards are w c =
      shard_of_unit p.sections shards are.runs 0 are.stand (subst (Numbered 0) (sym are.all) numbered) w (subst (λ (ws : List Walked). Contains ws w) (sym are.all) c)

  -- the run of a shard has the unit that the shard has
  pub unit_in_run : (s : Shard) (run : List Walked) → IsRunOf p run → StandsFor p.sections s run → ((v : Walked) → Contains run v → Contains p.walks v) → (w : Walked) → Contains p.walks w → has_unit w.number s ≡ true → Contains run w
  unit_in_run s run part stands whole w c on =
      let back = numbered_back 0 part.before (run ++ part.after) (subst (Numbered 0) part.is numbered) in
      let own = numbered_front back.0 run part.after back.1 in
      let v = has_run s run back.0 own (sizes p.sections s run stands) stands.first w.number on in
      subst (Contains run) (same_number v.0 w (whole v.0 v.1) c v.2) v.1

-- ---- units

units_are : (ss : List Section) (n : ℕ) (us : List UnitHeader) (ws : List Walked) → AreScans ss n us ws → map (λ w. w.unit) ws ≡ us
units_are ss n [] [] s = refl
units_are ss n [] (w ∷ ws) s = absurd s
units_are ss n (u ∷ us) [] s = absurd s
units_are ss n (u ∷ us) (w ∷ ws) s =
    let own = (walk_parts ss (n, u) w (scanned_walked ss (n, u) w s.0).0).1 in
    ap (λ (v : UnitHeader). v ∷ map (λ (x : Walked). x.unit) ws) own ∙ ap (λ (vs : List UnitHeader). u ∷ vs) (units_are ss (n + 1) us ws s.1)

-- the image of a file has the sections and the units of its program
pub record IsImageOf (im : Image) (p : Program) : Type 0 where
  pub sections : im.sections ≡ p.sections
  pub units : map (λ w. w.unit) p.walks ≡ im.units

pub image_is : (f : List ℕ) (im : Image) (p : Program) → image_of f ≡ Ok im → program_of f ≡ Ok p → IsImageOf im p
image_is f im p image is =
    let a = parts_of f im image in
    let b = program_parts f p is in
    let sections : im.sections ≡ p.sections = same_ok im.sections p.sections (sym a.sections ∙ b.1) in
    let same : b.0 ≡ im.units = same_ok b.0 im.units (sym b.2 ∙ ap units_of (sym sections) ∙ a.units) in
    record { sections = sections; units = units_are p.sections 0 b.0 p.walks b.3 ∙ same }

abbrev StartsBefore : UnitHeader → UnitHeader → Type 0
StartsBefore u v = u.start ≤ v.start

module _ (f : List ℕ) (p : Program) (is : program_of f ≡ Ok p) (us : List UnitHeader) (are : map (λ w. w.unit) p.walks ≡ us) where
  unit_at : (k : ℕ) (d : Walked) → k < length p.walks → get_or us k d.unit ≡ (get_or p.walks k d).unit
  unit_at k d lt = ap (λ (vs : List UnitHeader). get_or vs k d.unit) (sym are) ∙ get_or-map (λ (w : Walked). w.unit) p.walks k d d.unit lt

  many : length us ≡ length p.walks
  many = ap (λ (vs : List UnitHeader). length vs) (sym are) ∙ length-map p.walks (λ (w : Walked). w.unit)

  -- a unit has a number of the image
  pub has_number : (w : Walked) → Contains p.walks w → w.number < length us
  has_number w c = let h = place_of 0 p.walks w (program_numbered f p is) c in omega (arith, h.1, h.2, many)

  -- and it is the image's unit with the number
  pub unit_with_number : (w : Walked) → Contains p.walks w → get_or us w.number w.unit ≡ w.unit
  unit_with_number w c =
      let h = place_of 0 p.walks w (program_numbered f p is) c in
      let k : w.number ≡ h.0 = omega (arith, h.2) in
      ap (λ (n : ℕ). get_or us n w.unit) k ∙ unit_at h.0 w h.1 ∙ ap (λ (v : Walked). v.unit) h.3

  -- units begin one behind the other
  pub starts_rise : IsNonDecreasingBy (λ u. u.start) us
  starts_rise i j d le within =
      let walks = pairs_weaker Apart (On StartsBefore (λ (w : Walked). w.unit)) (λ v w h. let lt : v.unit.start ≤ w.unit.start = omega (arith, h.1) in lt) p.walks (program_apart f p is).apart in
      let units = subst (Pairs StartsBefore) are (pairs_map StartsBefore (λ (w : Walked). w.unit) p.walks walks) in
      ⊎_elim
      (λ (lt : i < j). all_pairs StartsBefore us units i j d lt within)
      (λ (ge : j ≤ i). let same : i ≡ j = omega (arith, le, ge) in subst (λ (k : ℕ). (get_or us i d).start ≤ (get_or us k d).start) same (omega arith))
      (cases_lt i j)

  -- where so many units begin at the offset of an entry or before it, the entry stands in the last of them
  module _ (w : Walked) (wc : Contains p.walks w) (d : Item) (dc : Contains (items_of w) d) (n : ℕ) (within : n ≤ length us) where
    pub last_begun : ((k : ℕ) (u : UnitHeader) → k < n → (get_or us k u).start ≤ d.at) → ((k : ℕ) (u : UnitHeader) → n ≤ k → k < length us → d.at < (get_or us k u).start) → n ≡ w.number + 1
    last_begun before behind =
        let walk = (program_apart f p is).walks w wc in
        let o = (walks_in_order p.sections walk.0 w walk.1).inside d dc in
        let h = place_of 0 p.walks w (program_numbered f p is) wc in
        let own : get_or us h.0 w.unit ≡ w.unit = unit_at h.0 w h.1 ∙ ap (λ (v : Walked). v.unit) h.3 in
        let start : (get_or us h.0 w.unit).start ≡ w.unit.start = ap (λ (u : UnitHeader). u.start) own in
        let low : h.0 < n = ⊎_elim (λ (lt : h.0 < n). lt) (λ (ge : n ≤ h.0). let after = behind h.0 w.unit ge (omega (arith, h.1, many)) in absurd (omega (arith, after, start, o.begins))) (cases_lt h.0 n) in
        ⊎_elim
        (λ (lt : h.0 + 1 < n).
        let next : h.0 + 1 < length p.walks = omega (arith, lt, within, many) in
        let apart = all_pairs Apart p.walks (program_apart f p is).apart h.0 (h.0 + 1) w (omega arith) next in
        let begins = before (h.0 + 1) w.unit lt in
        let there : (get_or us (h.0 + 1) w.unit).start ≡ (get_or p.walks (h.0 + 1) w).unit.start = ap (λ (u : UnitHeader). u.start) (unit_at (h.0 + 1) w next) in
        let here : (get_or p.walks h.0 w).unit.start + (get_or p.walks h.0 w).unit.length ≡ w.unit.start + w.unit.length = ap (λ (v : Walked). v.unit.start + v.unit.length) h.3 in
        absurd (omega (arith, apart.1, begins, there, here, o.some, o.ends)))
        (λ (ge : n ≤ h.0 + 1). omega (arith, low, ge, h.2))
        (cases_lt (h.0 + 1) n)

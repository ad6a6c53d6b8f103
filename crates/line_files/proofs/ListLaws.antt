-- The files of all runs are those of all units.
use Rattle.std.proofs.Common.{◌≡◌, ◌+◌, ◌-◌, ◌*◌, ◌≤◌, ℕ, zero, suc, List, [], ◌∷◌, ◌++◌, flat_map, length, take, drop, Result, Ok, Err, refl, sym, ap, subst, ◌∙◌, arith, add-mul, length-take, length-drop}
use Rattle.std.specs.List.{enumerate_from}
use Rattle.std.proofs.Math.Seq.{take-add}
use Rattle.std.proofs.lemmas.List.{drop-drop, take_all}
use Rattle.ix_base.specs.declared.fault.Fault.{Fault}
use Rattle.index_model.specs.declared.unit.Unit.{Unit as UnitHeader}
use Rattle.index_model.specs.Faults.{Built, built_of}
use Rattle.index_model.specs.Meaning.{◌>>=◌, each}
use Rattle.index_model.specs.Program.{Walked, walked}
use Rattle.index_model.specs.Sections.{Section}
use Rattle.index_model.proofs.Scans.{AreScans, scanned_walked}
use Rattle.index_model.proofs.UnitsApart.{walk_parts}
use Rattle.file_image.specs.Images.{Image, image_of}
use Rattle.reach_model.specs.LineTables.{FileHit, hits_in, hits_of, unit_hits}
use Rattle.line_files.specs.Places.{files_by}
use Rattle.line_files.specs.Runs.{all_hits, all_joined, hits_between, hits_of_runs, joined, run_start, unit_hits_by, units_between}
use Rattle.line_files.proofs.ProgramLaws.{are_scans, same_sections, walk_files}
use Rattle.line_files.proofs.RepeatLaws.{all_of}
use Rattle.line_files.proofs.RunLaws.{all_hits-cons, with_front-joined}

-- ---- two runs

joined-assoc : (r s t : Result (List FileHit) Fault) → joined (joined r s) t ≡ joined r (joined s t)
joined-assoc (Ok hs) s t = sym (with_front-joined hs s t)
joined-assoc (Err f) s t = refl

none_joined : (r : Result (List FileHit) Fault) → joined (Ok []) r ≡ r
none_joined (Ok hs) = refl
none_joined (Err f) = refl

all_hits-append : (ss : List Section) (name : List ℕ) (us vs : List (ℕ × UnitHeader)) → all_hits ss name (us ++ vs) ≡ joined (all_hits ss name us) (all_hits ss name vs)
all_hits-append ss name [] vs = sym (none_joined (all_hits ss name vs))
all_hits-append ss name (u ∷ us) vs =
    all_hits-cons ss name u (us ++ vs)
    ∙ ap (joined (unit_hits_by ss name u)) (all_hits-append ss name us vs)
    ∙ sym (joined-assoc (unit_hits_by ss name u) (all_hits ss name us) (all_hits ss name vs))
    ∙ ap (λ (r : Result (List FileHit) Fault). joined r (all_hits ss name vs)) (sym (all_hits-cons ss name u us))

enumerate-append : (n : ℕ) (us vs : List UnitHeader) → enumerate_from n (us ++ vs) ≡ enumerate_from n us ++ enumerate_from (n + length us) vs
enumerate-append n [] vs = let same : n + 0 ≡ n = omega arith in rw same refl
enumerate-append n (u ∷ us) vs =
    let place : n + 1 + length us ≡ n + suc (length us) = omega arith in
    ap (λ (xs : List (ℕ × UnitHeader)). (n, u) ∷ xs) (enumerate-append (n + 1) us vs ∙ ap (λ (k : ℕ). enumerate_from (n + 1) us ++ enumerate_from k vs) place)

between-append : (us : List UnitHeader) (a b c : ℕ) → a ≤ b → b ≤ c → c ≤ length us → units_between us a c ≡ units_between us a b ++ units_between us b c
between-append us a b c ab bc within =
    let count : c - a ≡ (b - a) + (c - b) = omega (arith, ab, bc) in
    let place : a + (b - a) ≡ b = omega (arith, ab) in
    let long : a + length (take (b - a) (drop a us)) ≡ b = omega (arith, ab, bc, within, length-take (b - a) (drop a us), length-drop a us) in
    let rest : drop (b - a) (drop a us) ≡ drop b us = drop-drop (b - a) a us ∙ ap (λ (k : ℕ). drop k us) place in
    ap (λ (k : ℕ). enumerate_from a (take k (drop a us))) count
    ∙ ap (enumerate_from a) (take-add (b - a) (c - b) (drop a us))
    ∙ ap (λ (vs : List UnitHeader). enumerate_from a (take (b - a) (drop a us) ++ take (c - b) vs)) rest
    ∙ enumerate-append a (take (b - a) (drop a us)) (take (c - b) (drop b us))
    ∙ ap (λ (k : ℕ). units_between us a b ++ enumerate_from k (take (c - b) (drop b us))) long

module _ (im : Image) (name : List ℕ) where
  hits-append : (a b c : ℕ) → a ≤ b → b ≤ c → c ≤ length im.units → hits_between im name a c ≡ joined (hits_between im name a b) (hits_between im name b c)
  hits-append a b c ab bc within = ap (all_hits im.sections name) (between-append im.units a b c ab bc within) ∙ all_hits-append im.sections name (units_between im.units a b) (units_between im.units b c)

  none_between : (a : ℕ) → hits_between im name a a ≡ Ok []
  none_between a = let none : a - a ≡ 0 = omega arith in rw none refl

  -- ---- all runs

  module _ (count size : ℕ) (within : count ≤ length im.units) where
    -- a run ends where the next begins
    rises : (k n : ℕ) → run_start count size k ≤ run_start count size (k + n)
    rises k n =
        let more : (k + n) * size ≡ k * size + n * size = omega (arith, add-mul k n size) in
        omega (arith, more)

    ends_within : (k : ℕ) → run_start count size k ≤ length im.units
    ends_within k = omega (arith, within)

    -- the files of n runs are those of their units
    runs_joined : (n first : ℕ) → all_joined (hits_of_runs im name count size first n) ≡ hits_between im name (run_start count size first) (run_start count size (first + n))
    runs_joined zero first =
        let same : first + 0 ≡ first = omega arith in
        rw same (sym (none_between (run_start count size first)))
    runs_joined (suc n) first =
        let last : first + 1 + n ≡ first + suc n = omega arith in
        ap (joined (hits_between im name (run_start count size first) (run_start count size (first + 1)))) (runs_joined n (first + 1) ∙ ap (λ (k : ℕ). hits_between im name (run_start count size (first + 1)) (run_start count size k)) last)
        ∙ sym (hits-append (run_start count size first) (run_start count size (first + 1)) (run_start count size (first + suc n)) (rises first 1) (subst (λ (k : ℕ). run_start count size (first + 1) ≤ run_start count size k) last (rises (first + 1) n)) (ends_within (first + suc n)))

  -- runs that make up all units
  pub all_runs : (count size runs : ℕ) → count ≡ length im.units → count ≤ runs * size → all_joined (hits_of_runs im name count size 0 runs) ≡ all_hits im.sections name (enumerate_from 0 im.units)
  all_runs count size runs all enough =
      let within : count ≤ length im.units = omega (arith, all) in
      let first : run_start count size 0 ≡ 0 = omega arith in
      let last : run_start count size (0 + runs) ≡ length im.units = omega (arith, all, enough) in
      let whole : take (length im.units - 0) (drop 0 im.units) ≡ im.units = take_all (length im.units - 0) im.units (omega arith) in
      runs_joined count size within runs 0
      ∙ ap (λ (k : ℕ). hits_between im name k (run_start count size (0 + runs))) first
      ∙ ap (hits_between im name 0) last
      ∙ ap (λ (us : List UnitHeader). all_hits im.sections name (enumerate_from 0 us)) whole

-- ---- walks

-- the files of a walk are those of its unit
walk_hits : (ss : List Section) (name : List ℕ) (u : ℕ × UnitHeader) (w : Walked) → walked ss u ≡ Ok w → unit_hits ss name w ≡ unit_hits_by ss name u
unfolding unit_hits
walk_hits ss name u w is =
    let number = (walk_parts ss u w is).0 in
    rw (walk_files ss u w is) (ap (λ (k : ℕ). files_by ss u >>= λ files. all_of (hits_in k name files)) number)

scan_hits : (ss : List Section) (name : List ℕ) (n : ℕ) (us : List UnitHeader) (ws : List Walked) → AreScans ss n us ws → each (unit_hits ss name) ws ≡ each (unit_hits_by ss name) (enumerate_from n us)
scan_hits ss name n [] [] s = refl
scan_hits ss name n [] (w ∷ ws) s = absurd s
scan_hits ss name n (u ∷ us) [] s = absurd s
scan_hits ss name n (u ∷ us) (w ∷ ws) s =
    let here = walk_hits ss name (n, u) w (scanned_walked ss (n, u) w s.0).0 in
    rw (here, scan_hits ss name (n + 1) us ws s.1) refl

-- the files of a program are those of all units of its image
pub program_hits : (im : Image) → image_of im.file ≡ Ok im → (b : Built) → built_of im.file ≡ Ok b → (name : List ℕ) → hits_of b.program.sections b.program.walks name ≡ all_hits im.sections name (enumerate_from 0 im.units)
unfolding hits_of
program_hits im image b is name =
    ap (λ (ss : List Section). each (unit_hits ss name) b.program.walks >>= λ hits. all_of (flat_map (λ found. found) hits)) (sym (same_sections im image b is))
    ∙ ap (λ (hits : Result (List (List FileHit)) Fault). hits >>= λ hs. all_of (flat_map (λ found. found) hs)) (scan_hits im.sections name 0 im.units b.program.walks (are_scans im image b is))

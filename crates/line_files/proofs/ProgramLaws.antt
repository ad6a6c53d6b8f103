-- A file without a fault: its image has its sections, and its walks are those of its units.
use Rattle.std.proofs.Common.{◌≡◌, ℕ, zero, suc, ◌+◌, List, [], ◌∷◌, Some, None, Ok, refl, sym, ap, subst, ◌∙◌, arith}
use Rattle.std.specs.Prelude.{slice_get}
use Rattle.index_model.specs.declared.unit.Unit.{Unit as UnitHeader}
use Rattle.index_model.specs.Faults.{Built, all_ranges, built_of, links_of, program_of}
use Rattle.index_model.specs.Meaning.{at_place}
use Rattle.index_model.specs.Program.{Walked, Program, walked}
use Rattle.index_model.specs.Sections.{Section}
use Rattle.index_model.specs.Units.{units_of}
use Rattle.index_model.proofs.Meanings.{bind_ok, same_ok}
use Rattle.index_model.proofs.Scans.{AreScans, program_parts, scanned_walked}
use Rattle.index_model.proofs.UnitsApart.{walk_parts}
use Rattle.index_model.specs.Gives.{Stop}
use Rattle.ix_base.specs.declared.or_memory.OrMemory.TheVariants as stops
use Rattle.index_model.specs.Gives.{StopsAs}
use Rattle.reach_model.specs.LineTables.{files_at, files_of, files_there, line_place}
use Rattle.line_files.specs.Places.{files_by, place_of}
use Rattle.file_image.specs.Images.{Image, image_of}
use Rattle.file_image.proofs.Images.{parts_of}

-- the program of a file without a fault
pub program_built : (file : List ℕ) (b : Built) → built_of file ≡ Ok b → program_of file ≡ Ok b.program
unfolding built_of
program_built file b is =
    let p = bind_ok (program_of file) _ b is in
    let ks = bind_ok (links_of p.0) _ b p.2 in
    let rs = bind_ok (all_ranges p.0 ks.0) _ b ks.2 in
    let made : Built = record { program = p.0; links = ks.0; ranges = rs.0 } in
    let same : p.0 ≡ b.program = ap (λ (x : Built). x.program) (same_ok made b rs.2) in
    subst (λ (x : Program). program_of file ≡ Ok x) same p.1

-- the walk with a number is that of the unit with this number
scan_at : (ss : List Section) (n : ℕ) (us : List UnitHeader) (ws : List Walked) → AreScans ss n us ws → (k : ℕ) (w : Walked) (u : UnitHeader) → slice_get ws k ≡ Some w → slice_get us k ≡ Some u → walked ss (n + k, u) ≡ Ok w
scan_at ss n [] ws s k w u at of = absurd cc
scan_at ss n (v ∷ us) [] s k w u at of = absurd s
scan_at ss n (v ∷ us) (x ∷ ws) s zero w u at of =
    let same_walk : x ≡ w = cc in
    let same_unit : v ≡ u = cc in
    let number : n + 0 ≡ n = omega arith in
    rw (number, ← same_walk, ← same_unit) (scanned_walked ss (n, v) x s.0).0
scan_at ss n (v ∷ us) (x ∷ ws) s (suc k) w u at of =
    let number : n + 1 + k ≡ n + suc k = omega arith in
    subst (λ (m : ℕ). walked ss (m, u) ≡ Ok w) number (scan_at ss (n + 1) us ws s.1 k w u at of)

module _ (im : Image) (image : image_of im.file ≡ Ok im) (b : Built) (is : built_of im.file ≡ Ok b) where
  -- the image has the sections of the program
  pub same_sections : im.sections ≡ b.program.sections
  same_sections =
      let program = program_parts im.file b.program (program_built im.file b is) in
      same_ok im.sections b.program.sections (sym (parts_of im.file im image).sections ∙ program.1)

  -- and the units that were walked
  pub are_scans : AreScans im.sections 0 im.units b.program.walks
  are_scans =
      let program = program_parts im.file b.program (program_built im.file b is) in
      let units : units_of im.sections ≡ Ok program.0 = ap units_of same_sections ∙ program.2 in
      let same : program.0 ≡ im.units = same_ok program.0 im.units (sym units ∙ (parts_of im.file im image).units) in
      subst (λ (us : List UnitHeader). AreScans im.sections 0 us b.program.walks) same (subst (λ (ss : List Section). AreScans ss 0 program.0 b.program.walks) (sym same_sections) program.3)

  -- the walk with a number
  pub walk_at : (k : ℕ) (w : Walked) (u : UnitHeader) → slice_get b.program.walks k ≡ Some w → slice_get im.units k ≡ Some u → walked im.sections (k, u) ≡ Ok w
  walk_at k w u at of =
      let number : 0 + k ≡ k = omega arith in
      subst (λ (m : ℕ). walked im.sections (m, u) ≡ Ok w) number (scan_at im.sections 0 im.units b.program.walks are_scans k w u at of)

-- the files of a walk are those of its unit
pub walk_files : (ss : List Section) (u : ℕ × UnitHeader) (w : Walked) → walked ss u ≡ Ok w → files_of ss w ≡ files_by ss u
unfolding files_of
walk_files ss u w is =
    let unit = (walk_parts ss u w is).1 in
    rw is (ap (λ (x : UnitHeader). at_place x.start (files_there ss (line_place w))) unit)

-- the files of the unit with a number
pub unit_files : (im : Image) → image_of im.file ≡ Ok im → (b : Built) → built_of im.file ≡ Ok b → (k : ℕ) (w : Walked) (u : UnitHeader) → slice_get b.program.walks k ≡ Some w → slice_get im.units k ≡ Some u →
    files_of b.program.sections w ≡ files_by im.sections (k, u)
unit_files im image b is k w u at of =
    ap (λ (ss : List Section). files_of ss w) (sym (same_sections im image b is)) ∙ walk_files im.sections (k, u) w (walk_at im image b is k w u at of)

-- a fault before the place is that of the unit
pub place_fault : (ss : List Section) (u : ℕ × UnitHeader) (s : Stop) → StopsAs s (place_of ss u) → StopsAs s (files_by ss u)
place_fault ss u stops.Memory h = tt
place_fault ss u (stops.Cause f) h = rw h refl

-- the files of a unit whose root names a table
pub place_found : (ss : List Section) (u : ℕ × UnitHeader) (place : ℕ) → place_of ss u ≡ Ok (Some place) → files_by ss u ≡ at_place u.1.start (files_at ss place)
place_found ss u place h = rw h refl

-- a unit whose root names no table has no files
pub no_place : (ss : List Section) (u : ℕ × UnitHeader) → place_of ss u ≡ Ok None → files_by ss u ≡ Ok []
no_place ss u h = rw h refl

-- The output of a Scan job.
use Rattle.std.proofs.Common.{◌≡◌, ℕ, ◌+◌, ◌≤◌, List, length, take, drop, Result, Ok, Err, refl, sym, ap, subst, ◌∙◌, arith}
use Rattle.std.specs.Prelude.{IsOkAnd}
use Rattle.std.specs.List.{enumerate_from}
use Rattle.std.proofs.lemmas.List.FromFn.{length-enumerate_from}
use Rattle.ix_base.specs.declared.fault.Fault.{Fault}
use Rattle.index_model.specs.Gives.{Stop}
use Rattle.ix_base.specs.declared.or_memory.OrMemory.TheVariants as stops
use Rattle.file_image.specs.Images.{Image, image_of}
use Rattle.file_image.proofs.Images.{parts_of}
use Rattle.index_model.specs.declared.job.Job.TheVariants.{Scan}
use Rattle.index_model.specs.declared.shard.Shard.{Shard}
use Rattle.index_model.specs.declared.unit.Unit.{Unit as UnitHeader}
use Rattle.index_model.specs.Gives.{GivesFor}
use Rattle.index_model.specs.Meaning.{each, wrong_in}
use Rattle.index_model.specs.Sections.{Section, sections_of}
use Rattle.index_model.specs.Units.{units_of}
use Rattle.index_model.specs.Program.{Walked}
use Rattle.index_model.specs.Faults.{scanned}
use Rattle.index_model.specs.Shards.{StandsFor}
use Rattle.index_model.specs.Outputs.{Subject, ShardOf, run_of, scan_of_run, IsOutputOf}
use Rattle.index_model.specs.LawsCore.{HasRuns}
use Rattle.index_model.proofs.Meanings.{same_ok}
use Rattle.stage_core.specs.Inputs.{UnitsOf, first_of}
use Rattle.index_pool.specs.Drawn.{IsDrawn}
use Rattle.index_pool.specs.Outputs.{output_of}
use Rattle.index_pool.proofs.Lists.{joined, part_is, part_within, ok_and, and_ok}
use Rattle.index_pool.proofs.Given.{IsOut, is_out}

-- the sections and units of an image are those of its file
pub record Same (s : Subject) (h : HasRuns s) (image : Image) : Type 0 where
  pub file : image.file ≡ s.file
  pub sections : image.sections ≡ h.sections
  pub units : image.units ≡ h.units

pub same_image : (s : Subject) (h : HasRuns s) (image : Image) → image_of s.file ≡ Ok image → Same s h image
same_image s h image is =
    let p = parts_of s.file image is in
    let sections : image.sections ≡ h.sections = same_ok image.sections h.sections (sym p.sections ∙ h.sections_are) in
    record {
      file = p.file;
      sections = sections;
      units = same_ok image.units h.units (sym p.units ∙ ap units_of sections ∙ h.units_are);
    }

module _ (s : Subject) (h : HasRuns s) (k : ℕ) where
  brings : (r : Result Shard Stop) (m : Result (List Walked) Fault) → scan_of_run s k ≡ m → GivesFor (StandsFor h.sections) r m → IsOutputOf s (Scan k) (output_of ShardOf r)
  brings (Ok shard) m is gives =
      let ws = ok_and m (StandsFor h.sections shard) gives in
      let run : scan_of_run s k ≡ Ok ws.0 = is ∙ ws.1 in
      (ap wrong_in run, and_ok (sections_of s.file) h.sections (λ ss. IsOkAnd (scan_of_run s k) (StandsFor ss shard)) h.sections_are (and_ok (scan_of_run s k) ws.0 (StandsFor h.sections shard) run ws.2))
  brings (Err (stops.Cause f)) m is gives = ap wrong_in (is ∙ gives)
  brings (Err stops.Memory) m is gives = tt

  run_is : scan_of_run s k ≡ each (scanned h.sections) (run_of s k)
  unfolding scan_of_run
  run_is = rw h.sections_are refl

  units_are : (first count : ℕ) → first_of s k ≡ first → length (run_of s k) ≡ count → take count (drop first (enumerate_from 0 h.units)) ≡ run_of s k
  units_are first count begins size =
      ap (λ (n : ℕ). take n (drop first (enumerate_from 0 h.units))) (sym size) ∙
      ap (λ (n : ℕ). take (length (run_of s k)) (drop n (enumerate_from 0 h.units))) (sym begins) ∙
      ap (λ us. take (length (run_of s k)) (drop (first_of s k) us)) (sym h.all) ∙ part_is s.runs k

  units_within : (first count : ℕ) → first_of s k ≡ first → length (run_of s k) ≡ count → first + count ≤ length h.units
  units_within first count begins size =
      let all : length (joined s.runs) ≡ length h.units = ap length h.all ∙ length-enumerate_from 0 h.units in
      omega (arith, begins, size, all, part_within s.runs k)

module _ (image : Image) (k first count : ℕ) (d : IsDrawn image (record { job = Scan k; given = UnitsOf first count })) where
  abbrev s : Subject
  s = d.machine.subject

  out : IsOut s (record { job = Scan k; given = UnitsOf first count })
  out = is_out image (record { job = Scan k; given = UnitsOf first count }) d

  abbrev h : HasRuns s
  h = out.runs

  same : Same s h image
  same = same_image s h image d.image_is

  pub scan_within : first + count ≤ length image.units
  scan_within = subst (λ (us : List UnitHeader). first + count ≤ length us) (sym same.units) (units_within s h k first count out.given.first_is out.given.count_is)

  pub scan_brings : (r : Result Shard Stop) → GivesFor (StandsFor image.sections) r (each (scanned image.sections) (take count (drop first (enumerate_from 0 image.units)))) → IsOutputOf s (Scan k) (output_of ShardOf r)
  scan_brings r gives =
      let at_sections = subst (λ (ss : List Section). GivesFor (StandsFor ss) r (each (scanned ss) (take count (drop first (enumerate_from 0 image.units))))) same.sections gives in
      let at_units = subst (λ (us : List UnitHeader). GivesFor (StandsFor h.sections) r (each (scanned h.sections) (take count (drop first (enumerate_from 0 us))))) same.units at_sections in
      let is = run_is s h k ∙ ap (each (scanned h.sections)) (sym (units_are s h k first count out.given.first_is out.given.count_is)) in
      brings s h k r (each (scanned h.sections) (take count (drop first (enumerate_from 0 h.units)))) is at_units

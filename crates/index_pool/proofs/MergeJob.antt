-- The output of the Merge job.
use Rattle.std.proofs.Common.{◌≡◌, ℕ, suc, ◌+◌, ◌<◌, ◌≤◌, ◌^◌, List, [], ◌∷◌, ◌++◌, flat_map, filter, filter_map, length, length-append, Some, Result, Ok, Err, refl, sym, ap, subst, ◌∙◌, arith}
use Rattle.std.specs.Prelude.{IfOk, codes}
use Rattle.ix_base.specs.declared.fault.NoMemory.{NoMemory}
use Rattle.file_image.specs.Images.{Image}
use Rattle.index_model.specs.declared.entry.Entry.{Entry}
use Rattle.index_model.specs.declared.job.Job.TheVariants.{Name, Merge}
use Rattle.index_model.specs.declared.range.UnitRange.{UnitRange}
use Rattle.index_model.specs.Answers.{entries_in}
use Rattle.index_model.specs.Entries.{entries_of}
use Rattle.index_model.specs.Faults.{Built, built_of, program_of, links_of, all_ranges}
use Rattle.index_model.specs.Links.{Link, links_in}
use Rattle.index_model.specs.Program.{Program, joint}
use Rattle.index_model.specs.Sections.{Section, section_bytes}
use Rattle.index_model.specs.Outputs.{Subject, Made, ShardOf, LinkedOf, SummaryOf, RunOf, TableOf, CacheOf, Makes, IsOutputOf, is_in_run}
use Rattle.index_model.specs.LawsCore.{HasRuns}
use Rattle.index_model.proofs.MachineHolds.{AllMade}
use Rattle.index_model.proofs.JobFaults.{FaultAt, MakesAt}
use Rattle.query_engine.specs.Asked.{TailsFit}
use Rattle.stage_core.specs.Inputs.{RunsOf, run_in}
use Rattle.index_pool.specs.Drawn.{IsDrawn}
use Rattle.index_pool.specs.Outputs.{output_or_memory}
use Rattle.index_pool.proofs.Built.{built, built_with, ranges_of_accepted, links_joined, entries_joined}
use Rattle.index_pool.proofs.Counts.{few_entries, tails_fit}
use Rattle.index_pool.proofs.Lists.{joined, part_at, at_ok, and_ok, zip_length}
use Rattle.index_pool.proofs.NameJob.{run_entries}
use Rattle.index_pool.proofs.Walks.{Reads, program, program_is}
use Rattle.index_pool.proofs.Given.{IsMerge, IsOut, is_out}
use Rattle.index_pool.proofs.ScanJob.{Same, same_image}

module _ (s : Subject) (b : Built) (is : built_of s.file ≡ Ok b) where
  run_made : (k : ℕ) (m : Made) → Makes s (Name k) m → (es : List Entry) × (run_in m ≡ Some es) × (es ≡ filter (λ e. is_in_run s k e.unit) (entries_in b))
  run_made k (RunOf es) makes = (es, refl, at_ok (built_of s.file) b (λ b. es ≡ filter (λ e. is_in_run s k e.unit) (entries_in b)) is makes)
  run_made k (ShardOf x) makes = absurd makes
  run_made k (LinkedOf x) makes = absurd makes
  run_made k (SummaryOf x) makes = absurd makes
  run_made k (TableOf x) makes = absurd makes
  run_made k (CacheOf x) makes = absurd makes

  -- what the Name jobs made, one run after the other
  runs_made : (p : Program) (k : ℕ) (links : List (List Link)) (made : List Made) → ((i : ℕ) → i < length links → filter (λ e. is_in_run s (k + i) e.unit) (entries_in b) ≡ entries_of p (part_at links i)) →
      AllMade (FaultAt s) (MakesAt s) 3 k (length links) made → joined (filter_map run_in made) ≡ flat_map (entries_of p) links
  runs_made p k [] [] at a = refl
  runs_made p k [] (m ∷ ms) at a = absurd a
  runs_made p k (ks ∷ kss) [] at a = absurd a
  runs_made p k (ks ∷ kss) (m ∷ ms) at a =
      let own = run_made k m a.1 in
      let here : own.0 ≡ entries_of p ks = own.2 ∙ ap (λ (n : ℕ). filter (λ (e : Entry). is_in_run s n e.unit) (entries_in b)) (sym (plus_zero k)) ∙ at 0 (omega arith) in
      let more = runs_made p (suc k) kss ms (λ i lt. ap (λ (n : ℕ). filter (λ (e : Entry). is_in_run s n e.unit) (entries_in b)) (shift k i) ∙ at (suc i) (omega (arith, lt))) a.2 in
      rw own.1 (ap (λ (es : List Entry). es ++ joined (filter_map run_in ms)) here ∙ ap (λ (es : List Entry). entries_of p ks ++ es) more)
    where
      plus_zero : (k : ℕ) → k + 0 ≡ k
      plus_zero k = omega arith

      shift : (k i : ℕ) → suc k + i ≡ k + suc i
      shift k i = omega arith

module _ (image : Image) (runs : List (List Entry)) (d : IsDrawn image (record { job = Merge; given = RunsOf runs })) where
  abbrev s : Subject
  s = d.machine.subject

  out : IsOut s (record { job = Merge; given = RunsOf runs })
  out = is_out image (record { job = Merge; given = RunsOf runs }) d

  abbrev h : HasRuns s
  h = out.runs

  abbrev here : IsMerge s h runs
  here = out.given

  same : Same s h image
  same = same_image s h image d.image_is

  abbrev p : Program
  p = program s h here.shards here.has.scanned

  abbrev ks : List Link
  ks = joined here.has.links.links

  file : program_of s.file ≡ Ok p
  file = program_is s h here.shards here.has.scanned

  links : links_in p p.walks ≡ Ok ks
  links = links_joined p here.has.scanned.walks here.has.links.links here.has.links.read

  links_are : links_of p ≡ Ok ks
  unfolding links_of
  links_are = links

  rs : (rs : List UnitRange) × (all_ranges p ks ≡ Ok rs)
  rs = ranges_of_accepted s.file p file ks links_are here.accepted

  built_is : built_of s.file ≡ Ok (built p ks rs.0)
  built_is = built_with s.file p file ks links_are rs.0 rs.1

  counted : length s.runs ≡ length here.has.links.links
  counted = zip_length (Reads s h) s.runs here.has.scanned.walks here.has.scanned.read ∙ zip_length (λ ws ks. links_in p ws ≡ Ok ks) here.has.scanned.walks here.has.links.links here.has.links.read

  all : joined runs ≡ entries_of p ks
  all =
      ap joined (sym here.runs_are) ∙
      runs_made s (built p ks rs.0) built_is p 0 here.has.links.links here.made
      (λ i lt. ap (λ (n : ℕ). filter (λ (e : Entry). is_in_run s n e.unit) (entries_of p ks)) (zero_plus i) ∙ run_entries s h here.shards here.has.scanned here.linked here.has.links i (omega (arith, lt, counted)))
      (subst (λ (n : ℕ). AllMade (FaultAt s) (MakesAt s) 3 0 n here.made) counted here.all) ∙
      sym (entries_joined p here.has.links.links)
    where
      zero_plus : (i : ℕ) → 0 + i ≡ i
      zero_plus i = omega arith

  pub merge_few : length (section_bytes image.sections (codes ".debug_info")) ≤ 2 ^ 30 → length (section_bytes image.sections (codes ".debug_types")) ≤ 2 ^ 30 → length (joined runs) < 2 ^ 32
  merge_few info types =
      let own : (ss : List Section) → image.sections ≡ ss → length (joint ss) ≤ 2 ^ 31 = λ ss e. subst (λ (xs : List Section). length (joint xs) ≤ 2 ^ 31) e (omega (arith, info, types, length-append (section_bytes image.sections (codes ".debug_info")) (section_bytes image.sections (codes ".debug_types")))) in
      let few = few_entries p s.file file ks links (own p.sections same.sections) in
      omega (arith, few, ap length all)

  pub merge_tails : TailsFit (joined runs)
  merge_tails = subst TailsFit (sym all) (tails_fit p p.walks ks links)

  pub merge_brings : (r : Result (List Entry) NoMemory) → IfOk r (λ t. t ≡ joined runs) → IsOutputOf s Merge (output_or_memory TableOf r)
  merge_brings (Err e) gives = tt
  merge_brings (Ok es) gives = (refl, and_ok (built_of s.file) (built p ks rs.0) (λ b. es ≡ entries_in b) built_is (gives ∙ all))

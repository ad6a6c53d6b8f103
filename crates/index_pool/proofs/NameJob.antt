-- The output of a Name job.
use Rattle.std.proofs.Common.{◌≡◌, ℕ, zero, suc, ◌<◌, List, [], ◌∷◌, ◌++◌, map, flat_map, filter, length, Result, Ok, Err, refl, sym, ap, subst, ◌∙◌, arith}
use Rattle.std.specs.Prelude.{IfOk}
use Rattle.ix_base.specs.declared.fault.NoMemory.{NoMemory}
use Rattle.file_image.specs.Images.{Image}
use Rattle.index_model.specs.declared.entry.Entry.{Entry}
use Rattle.index_model.specs.declared.job.Job.TheVariants.{Name}
use Rattle.index_model.specs.declared.shard.Shard.{Shard}
use Rattle.index_model.specs.declared.shard.Linked.{Linked}
use Rattle.index_model.specs.Answers.{entries_in}
use Rattle.index_model.specs.Entries.{entries_of}
use Rattle.index_model.specs.Faults.{built_of, program_of}
use Rattle.index_model.specs.Links.{links_in}
use Rattle.index_model.specs.Program.{Program}
use Rattle.index_model.specs.Outputs.{Subject, RunOf, IsOutputOf, is_in_run}
use Rattle.index_model.specs.LawsCore.{HasRuns}
use Rattle.index_model.proofs.Pairs.{Pairs}
use Rattle.stage_core.specs.Inputs.{LinksOf}
use Rattle.qualified_names.specs.Files.{AreLinkedOfFile, ForLinkedRun}
use Rattle.index_pool.specs.Drawn.{IsDrawn}
use Rattle.index_pool.specs.Outputs.{output_or_memory}
use Rattle.index_pool.proofs.Built.{built, built_with, ranges_of_accepted, entries_joined}
use Rattle.index_pool.proofs.Lists.{joined, part_at, and_ok, zip_parts, zip_length}
use Rattle.index_pool.proofs.Walks.{Scanned, Reads, Links, program, program_is, are_shards, count}
use Rattle.index_pool.proofs.Given.{IsOut, is_out}
use Rattle.index_pool.proofs.Picks.{Lower, pick, units_rise}
use Rattle.index_pool.proofs.Owners.{own_runs}
use Rattle.index_pool.proofs.MainJob.{links_are, linked_of_file}
use Rattle.index_pool.proofs.ScanJob.{Same, same_image}

joined_map : {A B : Type 0} (f : A → List B) (xs : List A) → joined (map f xs) ≡ flat_map f xs
joined_map f [] = refl
joined_map {B = B} f (x ∷ xs) = ap (λ (ys : List B). f x ++ ys) (joined_map f xs)

part_map : {A B : Type 0} (f : List A → List B) (xs : List (List A)) (k : ℕ) → k < length xs → part_at (map f xs) k ≡ f (part_at xs k)
part_map f [] k lt = absurd (omega (arith, lt))
part_map f (x ∷ xs) zero lt = refl
part_map f (x ∷ xs) (suc k) lt = part_map f xs k (omega (arith, lt))

-- the entries of an accepted file, run by run
module _ (s : Subject) (h : HasRuns s) (shards : List Shard) (x : Scanned s h s.runs shards) (linked : List Linked) (y : Links s h shards x x.walks linked) where
  abbrev pub p : Program
  p = program s h shards x

  pub all_entries : entries_of p (joined y.links) ≡ joined (map (entries_of p) y.links)
  all_entries = entries_joined p y.links ∙ sym (joined_map (entries_of p) y.links)

  rise : Pairs Lower (joined s.runs)
  rise = subst (Pairs Lower) (sym h.all) (units_rise 0 h.units)

  links_count : length s.runs ≡ length y.links
  links_count = zip_length (Reads s h) s.runs x.walks x.read ∙ zip_length (λ ws ks. links_in p ws ≡ Ok ks) x.walks y.links y.read

  -- of all entries those of run k
  pub run_entries : (k : ℕ) → k < length s.runs → filter (λ e. is_in_run s k e.unit) (entries_of p (joined y.links)) ≡ entries_of p (part_at y.links k)
  run_entries k lt =
      ap (filter (λ (e : Entry). is_in_run s k e.unit)) all_entries ∙
      pick s.runs (map (entries_of p) y.links) k (own_runs p h.sections s.runs x.walks y.links x.read y.read) rise lt ∙
      part_map (entries_of p) y.links k (omega (arith, lt, links_count))

  pub run_links : (k : ℕ) → k < length s.runs → links_in p (part_at x.walks k) ≡ Ok (part_at y.links k)
  run_links k lt = zip_parts (λ ws ks. links_in p ws ≡ Ok ks) x.walks y.links y.read k (omega (arith, lt, zip_length (Reads s h) s.runs x.walks x.read))

module _ (image : Image) (k : ℕ) (shards : List Shard) (linked : List Linked) (d : IsDrawn image (record { job = Name k; given = LinksOf shards linked })) where
  abbrev s : Subject
  s = d.machine.subject

  out : IsOut s (record { job = Name k; given = LinksOf shards linked })
  out = is_out image (record { job = Name k; given = LinksOf shards linked }) d

  abbrev h : HasRuns s
  h = out.runs

  same : Same s h image
  same = same_image s h image d.image_is

  pub name_of_file : AreLinkedOfFile image shards linked
  name_of_file = linked_of_file s h image same shards linked out.given.has

  pub name_within : k < length shards
  name_within = omega (arith, out.given.within, count s h shards out.given.has.scanned)

  pub name_brings : (r : Result (List Entry) NoMemory) → ForLinkedRun image shards linked k (λ p ks. IfOk r (λ run. run ≡ entries_of p ks)) → IsOutputOf s (Name k) (output_or_memory RunOf r)
  name_brings (Err e) gives = tt
  name_brings (Ok es) gives =
      let x = out.given.has.scanned in
      let y = out.given.has.links in
      let q = program s h shards x in
      let file = program_is s h shards x in
      let links = links_are s h image same shards linked out.given.has in
      let rs = ranges_of_accepted s.file q file (joined y.links) links out.given.accepted in
      let own : es ≡ entries_of q (part_at y.links k) = gives q (ap program_of same.file ∙ file) (are_shards s h shards x) y.are (part_at y.links k) (run_links s h shards x linked y k out.given.within) in
      let all : es ≡ filter (λ e. is_in_run s k e.unit) (entries_of q (joined y.links)) = own ∙ sym (run_entries s h shards x linked y k out.given.within) in
      (refl, and_ok (built_of s.file) (built q (joined y.links) rs.0) (λ b. es ≡ filter (λ e. is_in_run s k e.unit) (entries_in b)) (built_with s.file q file (joined y.links) links rs.0 rs.1) all)

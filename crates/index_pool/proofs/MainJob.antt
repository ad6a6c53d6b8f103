-- The output of the Main job.
use Rattle.std.proofs.Common.{◌≡◌, List, Result, Ok, Err, refl, ap, ◌∙◌}
use Rattle.ix_base.specs.declared.fault.Fault.{Fault}
use Rattle.index_model.specs.Gives.{Stop}
use Rattle.ix_base.specs.declared.or_memory.OrMemory.TheVariants as stops
use Rattle.file_image.specs.Images.{Image}
use Rattle.index_model.specs.declared.job.Job.TheVariants.{Main}
use Rattle.index_model.specs.declared.range.UnitRange.{UnitRange}
use Rattle.index_model.specs.declared.shard.Shard.{Shard}
use Rattle.index_model.specs.declared.shard.Linked.{Linked}
use Rattle.index_model.specs.Faults.{built_of, program_of, links_of, all_ranges}
use Rattle.index_model.specs.Gives.{GivesFor}
use Rattle.index_model.specs.Links.{Link}
use Rattle.index_model.specs.MainProgram.{main_of}
use Rattle.index_model.specs.Pieces.{IsPieces}
use Rattle.index_model.specs.Program.{Program}
use Rattle.index_model.specs.Outputs.{Subject, SummaryOf, IsOutputOf}
use Rattle.index_model.specs.LawsCore.{HasRuns}
use Rattle.stage_core.specs.declared.output.Summary.{Summary}
use Rattle.stage_core.specs.Inputs.{LinksOf}
use Rattle.stage_core.specs.Outputs.{summary_seen}
use Rattle.qualified_names.specs.Files.{AreLinkedOfFile, ForLinks}
use Rattle.index_pool.specs.Drawn.{IsDrawn}
use Rattle.index_pool.specs.Files.{IsSummaryOf}
use Rattle.index_pool.specs.Outputs.{output_of}
use Rattle.index_pool.proofs.Built.{built, built_with, fault_with, accepted_with, links_joined}
use Rattle.index_pool.proofs.Lists.{joined, ok_and, and_ok}
use Rattle.index_pool.proofs.Walks.{program, program_is, are_shards}
use Rattle.index_pool.proofs.Given.{HasLinks, IsOut, is_out}
use Rattle.index_pool.proofs.ScanJob.{Same, same_image}

module _ (s : Subject) (image : Image) (file_is : image.file ≡ s.file) (p : Program) (file : program_of s.file ≡ Ok p) (ks : List Link) (links : links_of p ≡ Ok ks) where
  brings : (r : Result Summary Stop) (m : Result (List UnitRange) Fault) → all_ranges p ks ≡ m → GivesFor (λ m rs. IsSummaryOf image (summary_seen m) rs) r m → IsOutputOf s Main (output_of (λ m. SummaryOf (summary_seen m)) r)
  brings (Ok x) m is gives =
      let rs = ok_and m (IsSummaryOf image (summary_seen x)) gives in
      let own = rs.2 p (ap program_of file_is ∙ file) ks links in
      (accepted_with s.file p file ks links rs.0 (is ∙ rs.1), and_ok (built_of s.file) (built p ks rs.0) (λ b. ((summary_seen x).main ≡ main_of b.program b.links) × IsPieces b.ranges (summary_seen x).map) (built_with s.file p file ks links rs.0 (is ∙ rs.1)) own)
  brings (Err (stops.Cause f)) m is gives = fault_with s.file p file ks links f (is ∙ gives)
  brings (Err stops.Memory) m is gives = tt

-- the shards and the links that Main and Name are given
module _ (s : Subject) (h : HasRuns s) (image : Image) (same : Same s h image) (shards : List Shard) (linked : List Linked) (has : HasLinks s h shards linked) where
  abbrev pub the_program : Program
  the_program = program s h shards has.scanned

  abbrev pub the_links : List Link
  the_links = joined has.links.links

  pub links_are : links_of the_program ≡ Ok the_links
  unfolding links_of
  links_are = links_joined the_program has.scanned.walks has.links.links has.links.read

  pub linked_of_file : AreLinkedOfFile image shards linked
  linked_of_file = record {
    program = the_program;
    is = ap program_of same.file ∙ program_is s h shards has.scanned;
    are = are_shards s h shards has.scanned;
    links = has.links.are;
  }

module _ (image : Image) (shards : List Shard) (linked : List Linked) (d : IsDrawn image (record { job = Main; given = LinksOf shards linked })) where
  abbrev s : Subject
  s = d.machine.subject

  out : IsOut s (record { job = Main; given = LinksOf shards linked })
  out = is_out image (record { job = Main; given = LinksOf shards linked }) d

  same : Same s out.runs image
  same = same_image s out.runs image d.image_is

  pub main_of_file : AreLinkedOfFile image shards linked
  main_of_file = linked_of_file s out.runs image same shards linked out.given

  pub main_brings : (r : Result Summary Stop) → ForLinks image (λ p ks. GivesFor (λ m rs. IsSummaryOf image (summary_seen m) rs) r (all_ranges p ks)) → IsOutputOf s Main (output_of (λ m. SummaryOf (summary_seen m)) r)
  main_brings r gives =
      let p = program s out.runs shards out.given.scanned in
      let ks = joined out.given.links.links in
      let file = program_is s out.runs shards out.given.scanned in
      let links = links_are s out.runs image same shards linked out.given in
      brings s image same.file p file ks links r (all_ranges p ks) refl (gives p (ap program_of same.file ∙ file) ks links)

-- The output of a Link job.
use Rattle.std.proofs.Common.{◌≡◌, ℕ, ◌<◌, List, length, Result, Ok, Err, ap, ◌∙◌, arith}
use Rattle.std.specs.Prelude.{IsOkAnd}
use Rattle.ix_base.specs.declared.fault.Fault.{Fault}
use Rattle.index_model.specs.Gives.{Stop}
use Rattle.ix_base.specs.declared.or_memory.OrMemory.TheVariants as stops
use Rattle.file_image.specs.Images.{Image}
use Rattle.index_model.specs.declared.job.Job.TheVariants.{Link}
use Rattle.index_model.specs.declared.shard.Shard.{Shard}
use Rattle.index_model.specs.declared.shard.Linked.{Linked}
use Rattle.index_model.specs.Gives.{GivesFor}
use Rattle.index_model.specs.Meaning.{wrong_in}
use Rattle.index_model.specs.Program.{Program}
use Rattle.index_model.specs.Links.{Link as LinkOf, links_in}
use Rattle.index_model.specs.Faults.{program_of}
use Rattle.index_model.specs.Shards.{IsLinked}
use Rattle.index_model.specs.Outputs.{Subject, LinkedOf, link_of_run, IsOutputOf}
use Rattle.index_model.specs.LawsCore.{HasRuns}
use Rattle.stage_core.specs.Inputs.{ScansOf}
use Rattle.shard_build.specs.Entries.{AreShardsOfFile}
use Rattle.parent_resolve.specs.Runs.{ForRun}
use Rattle.index_pool.specs.Drawn.{IsDrawn}
use Rattle.index_pool.specs.Outputs.{output_of}
use Rattle.index_pool.proofs.Lists.{part_at, ok_and, and_ok}
use Rattle.index_pool.proofs.Walks.{Scanned, program, program_is, are_shards, count, link_is}
use Rattle.index_pool.proofs.Given.{IsOut, is_out}
use Rattle.index_pool.proofs.ScanJob.{Same, same_image}

module _ (s : Subject) (p : Program) (file : program_of s.file ≡ Ok p) (k : ℕ) where
  brings : (r : Result Linked Stop) (m : Result (List LinkOf) Fault) → link_of_run s k ≡ m → GivesFor (IsLinked p) r m → IsOutputOf s (Link k) (output_of LinkedOf r)
  brings (Ok linked) m is gives =
      let ks = ok_and m (IsLinked p linked) gives in
      let run : link_of_run s k ≡ Ok ks.0 = is ∙ ks.1 in
      (ap wrong_in run, and_ok (program_of s.file) p (λ p. IsOkAnd (link_of_run s k) (IsLinked p linked)) file (and_ok (link_of_run s k) ks.0 (IsLinked p linked) run ks.2))
  brings (Err (stops.Cause f)) m is gives = ap wrong_in (is ∙ gives)
  brings (Err stops.Memory) m is gives = tt

-- the shards of a subject are those of its image's file
pub of_image : (s : Subject) (h : HasRuns s) (shards : List Shard) (x : Scanned s h s.runs shards) (image : Image) → Same s h image → AreShardsOfFile image shards
of_image s h shards x image same = record {
  program = program s h shards x;
  is = ap program_of same.file ∙ program_is s h shards x;
  are = are_shards s h shards x;
}

module _ (image : Image) (k : ℕ) (shards : List Shard) (d : IsDrawn image (record { job = Link k; given = ScansOf shards })) where
  abbrev s : Subject
  s = d.machine.subject

  out : IsOut s (record { job = Link k; given = ScansOf shards })
  out = is_out image (record { job = Link k; given = ScansOf shards }) d

  abbrev h : HasRuns s
  h = out.runs

  same : Same s h image
  same = same_image s h image d.image_is

  pub link_of_file : AreShardsOfFile image shards
  link_of_file = of_image s h shards out.given.scanned image same

  pub link_within : k < length shards
  link_within = omega (arith, out.given.within, count s h shards out.given.scanned)

  pub link_brings : (r : Result Linked Stop) → ForRun image shards k (λ p links. GivesFor (IsLinked p) r links) → IsOutputOf s (Link k) (output_of LinkedOf r)
  link_brings r gives =
      let x = out.given.scanned in
      let p = program s h shards x in
      let file = program_is s h shards x in
      brings s p file k r (links_in p (part_at x.walks k)) (link_is s h shards x k out.given.within) (gives p (ap program_of same.file ∙ file) (are_shards s h shards x))

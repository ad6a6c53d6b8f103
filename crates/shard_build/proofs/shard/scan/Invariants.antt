use Rattle.std.specs.Prelude.{codes}
use Rattle.index_model.specs.Sections.{section_bytes}
use Rattle.shard_build.specs.Runs.{AreAtOffsets}
use Rattle.shard_build.proofs.RunEnds.{SoFar}
use Rattle.shard_build.proofs.shard.scan.Given as goal

-- the units so far are kept, and the tables that are kept are those at their offsets
abbrev pub invariant-loop-number : goal.invariant-loop-number
invariant-loop-number l = record {
  kept : SoFar l.image.sections l.image.units l.first l.number l.run;
  tables : AreAtOffsets (section_bytes l.image.sections (codes ".debug_abbrev")) l.tables.kept;
}

use Rattle.std.proofs.Common.{ap, ◌∙◌}
use Rattle.gdbindex_write.specs.Pools.{vectors_seen}
use Rattle.gdbindex_write.proofs.VectorLaws.{place_seen, set_seen}
use Rattle.gdbindex_write.proofs.vectors.insert.Goals as goal

pub returns : goal.returns
returns c = record {
  set = ap vectors_seen c.in_ok-insert_full.ensures.keys ∙ set_seen c.args.vector c.args.set.now.keys;
  number = c.in_ok-insert_full.ensures.index ∙ place_seen c.args.vector c.args.set.now.keys;
}

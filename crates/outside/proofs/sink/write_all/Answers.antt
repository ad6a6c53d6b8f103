use Rattle.std.proofs.Common.{arith}
use Rattle.outside.proofs.WrittenLaws.{appends_piece}
use Rattle.outside.proofs.sink.write_all.Goals as goal

pub loop-done-preserved : goal.loop-done-preserved
loop-done-preserved g c = record {
  within = grind (arith, c.in_ok-done.ensures.within);
  appended =
      appends_piece _ _ _ _ _ _ c.loop-done.invariant.appended c.in_ok-done.ensures.appended;
  counts = omega (arith, c.loop-done.invariant.counts, c.in_ok-done.ensures.counts);
}

use Rattle.std.proofs.Common.{arith}
use Rattle.file_image.proofs.TextLaws.{further}
use Rattle.file_image.proofs.text_limits.limit_of.Goals as goal

pub loop-zero-preserved : goal.loop-zero-preserved
loop-zero-preserved c = record {
  within = omega (arith, c.in-Some.ensures.within);
  sound = further c.args.bytes.now c.loop-zero.limit c.in-Some.zero c.loop-zero.invariant.sound c.in-Some.ensures;
}

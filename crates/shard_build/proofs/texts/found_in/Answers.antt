use Rattle.std.proofs.Common.{◌≡◌, ◌+◌, ◌-◌, length, arith}
use Rattle.shard_build.proofs.FoundLaws.{cut_out, occurs}
use Rattle.shard_build.proofs.texts.found_in.Goals as goal

pub unreachable-requires : goal.unreachable-requires
unreachable-requires c =
    let here = occurs c.args.bytes.now c.args.text.now c.args.from c.args.to c.min.result c.min-to.result c.requires c.min-to.ensures c.min.ensures in
    c.in-None.ensures (c.requires.place - c.min.result) (omega arith) (omega (arith, here.fits)) here

pub returns : goal.returns
returns c =
    let same : c.in-Some.at + length c.args.text.now - c.in-Some.at ≡ length c.args.text.now = omega arith in
    cut_out _ c.args.text.now c.in-Some.at _ same c.in-Some.ensures.1

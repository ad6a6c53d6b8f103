use Rattle.std.proofs.Common.{◌≡◌, ◌+◌, arith}
use Rattle.entry_scan.proofs.FrontLaws.{one_more}
use Rattle.entry_scan.proofs.sizes.front_of.Goals as goal

pub loop-spec-preserved : goal.loop-spec-preserved
loop-spec-preserved c =
    let all = c.args.specs.now in
    let k = c.loop-spec.spec-index in
    let next = c.in-Some.ensures in
    let front = rw c.loop-spec.invariant.count at c.loop-spec.invariant.front.begins in
    let more = one_more all k c.loop-spec.front.bytes next.size c.loop-spec-test.true front next.takes in
    let count : c.in-Some.longer.count ≡ k + 1 = omega (arith, next.count, c.loop-spec.invariant.count) in
    record {
      front = record {
        within = omega (arith, count, c.loop-spec-test.true);
        begins = rw (count, next.bytes) more;
      };
      count = count;
    }

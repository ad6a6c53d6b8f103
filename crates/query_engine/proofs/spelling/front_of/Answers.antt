use Rattle.std.proofs.Common.{◌≡◌, ◌<◌, get_or, rules, arith}
use Rattle.query_engine.proofs.FrontLaws.{front_more, front_fits, front_grows, front_whole}
use Rattle.query_engine.proofs.spelling.front_of.Goals as goal

pub overflow_mul-number : goal.overflow_mul-number
overflow_mul-number c = omega (arith, front_fits c.loop-i.number c.loop-i.i c.loop-i-test.true c.loop-i.invariant.0)

pub overflow_add-number : goal.overflow_add-number
overflow_add-number c =
    let small : c.from.result < 256 = omega (arith, c.from.ensures) in
    omega (arith, front_fits c.loop-i.number c.loop-i.i c.loop-i-test.true c.loop-i.invariant.0)

pub loop-i-preserved : goal.loop-i-preserved
loop-i-preserved c =
    let small : c.from.result < 256 = omega (arith, c.from.ensures) in
    let is : c.from.result ≡ get_or c.args.bytes.now c.loop-i.i 0 = search rules in (
      front_grows c.loop-i.number c.loop-i.i c.from.result c.loop-i.invariant.0 small,
      rw (← front_more c.loop-i.number c.loop-i.i c.from.result c.args.bytes.now c.loop-i-test.true is) c.loop-i.invariant.1,
      omega arith,
    )

pub returns : goal.returns
returns c = front_whole c.loop-i.number c.args.bytes.now c.loop-i.i (omega arith) c.loop-i.invariant.2 c.loop-i.invariant.1

use Rattle.std.proofs.Common.{ℕ, ◌+◌, ◌-◌, ◌/◌, ◌<◌, length, refl, arith}
use Rattle.index_model.proofs.Halves.{says, up, down}
use Rattle.index_model.proofs.nodes.Nodes.count_before.Goals as goal

pub loop-low-preserved-then-stands_before : goal.loop-low-preserved-then-stands_before
loop-low-preserved-then-stands_before c =
    let low = c.loop-low.low in
    let high = c.loop-low.high in
    let middle : ℕ = low + (high - low) / 2 in
    let inv = c.loop-low.invariant in
    let xs = c.args.self.now in
    let within : middle < length xs = omega (arith, c.loop-low-test.true, inv.1) in (
      omega (arith, c.loop-low-test.true),
      inv.1,
      λ rise. up (λ n. n.facts.offset) xs c.args.offset rise low high (inv.2 rise) middle within ((says (λ n. n.facts.offset) xs c.args.offset middle within c.stands_before.result c.stands_before.ensures).0 c.if-stands_before.true) (middle + 1) refl,
    )

pub loop-low-preserved : goal.loop-low-preserved
loop-low-preserved c =
    let low = c.loop-low.low in
    let high = c.loop-low.high in
    let middle : ℕ = low + (high - low) / 2 in
    let inv = c.loop-low.invariant in
    let xs = c.args.self.now in
    let within : middle < length xs = omega (arith, c.loop-low-test.true, inv.1) in (
      omega arith,
      omega (arith, within),
      λ rise. down (λ n. n.facts.offset) xs c.args.offset rise low high (inv.2 rise) middle within ((says (λ n. n.facts.offset) xs c.args.offset middle within c.stands_before.result c.stands_before.ensures).1 c.if-stands_before.false),
    )

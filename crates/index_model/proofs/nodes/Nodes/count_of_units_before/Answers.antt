use Rattle.std.proofs.Common.{ℕ, ◌+◌, ◌-◌, ◌/◌, ◌<◌, length, refl, arith}
use Rattle.index_model.proofs.Halves.{says, up, down}
use Rattle.index_model.proofs.nodes.Nodes.count_of_units_before.Goals as goal

pub loop-low-preserved-then-is_of_earlier : goal.loop-low-preserved-then-is_of_earlier
loop-low-preserved-then-is_of_earlier c =
    let low = c.loop-low.low in
    let high = c.loop-low.high in
    let middle : ℕ = low + (high - low) / 2 in
    let inv = c.loop-low.invariant in
    let xs = c.args.self.now in
    let within : middle < length xs = omega (arith, c.loop-low-test.true, inv.1) in (
      omega (arith, c.loop-low-test.true),
      inv.1,
      λ rise. up (λ n. n.facts.unit) xs c.args.unit rise low high (inv.2 rise) middle within ((says (λ n. n.facts.unit) xs c.args.unit middle within c.is_of_earlier.result c.is_of_earlier.ensures).0 c.if-is_of_earlier.true) (middle + 1) refl,
    )

pub loop-low-preserved : goal.loop-low-preserved
loop-low-preserved c =
    let low = c.loop-low.low in
    let high = c.loop-low.high in
    let middle : ℕ = low + (high - low) / 2 in
    let inv = c.loop-low.invariant in
    let xs = c.args.self.now in
    let within : middle < length xs = omega (arith, c.loop-low-test.true, inv.1) in (
      omega arith,
      omega (arith, within),
      λ rise. down (λ n. n.facts.unit) xs c.args.unit rise low high (inv.2 rise) middle within ((says (λ n. n.facts.unit) xs c.args.unit middle within c.is_of_earlier.result c.is_of_earlier.ensures).1 c.if-is_of_earlier.false),
    )

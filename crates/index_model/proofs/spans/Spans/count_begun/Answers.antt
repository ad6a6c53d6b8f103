use Rattle.std.proofs.Common.{ℕ, ◌+◌, ◌-◌, ◌/◌, ◌<◌, length, refl, arith}
use Rattle.index_model.proofs.Halves.{begun_says, up, down}
use Rattle.index_model.proofs.spans.Spans.count_begun.Goals as goal

pub loop-low-preserved-then-is_begun : goal.loop-low-preserved-then-is_begun
loop-low-preserved-then-is_begun c =
    let low = c.loop-low.low in
    let high = c.loop-low.high in
    let middle : ℕ = low + (high - low) / 2 in
    let inv = c.loop-low.invariant in
    let xs = c.args.self.now in
    let within : middle < length xs = omega (arith, c.loop-low-test.true, inv.1) in (
      omega (arith, c.loop-low-test.true),
      inv.1,
      λ rise. up (λ s. s.from) xs (c.args.place + 1) rise low high (inv.2 rise) middle within ((begun_says xs c.args.place middle within c.is_begun.result c.is_begun.ensures).0 c.if-is_begun.true) (middle + 1) refl,
    )

pub loop-low-preserved : goal.loop-low-preserved
loop-low-preserved c =
    let low = c.loop-low.low in
    let high = c.loop-low.high in
    let middle : ℕ = low + (high - low) / 2 in
    let inv = c.loop-low.invariant in
    let xs = c.args.self.now in
    let within : middle < length xs = omega (arith, c.loop-low-test.true, inv.1) in (
      omega arith,
      omega (arith, within),
      λ rise. down (λ s. s.from) xs (c.args.place + 1) rise low high (inv.2 rise) middle within ((begun_says xs c.args.place middle within c.is_begun.result c.is_begun.ensures).1 c.if-is_begun.false),
    )

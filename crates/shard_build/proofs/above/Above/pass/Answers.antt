use Rattle.std.proofs.Common.{ℕ, set, Some, ap, ◌∙◌, arith}
use Rattle.shard_build.proofs.AboveLaws.{one_passed}
use Rattle.shard_build.proofs.above.Above.pass.Goals as goal

pub returns : goal.returns
returns c passed last =
    let d = c.args.entry.now in
    let offsets = c.args.self.now.offsets.items in
    let is = ap (λ (k : ℕ). set offsets k (Some c.offset.result)) c.depth.ensures.value ∙ ap (λ (at : ℕ). set offsets d.depth (Some at)) c.offset.ensures.value in
    one_passed passed offsets last d (omega (arith, c.depth.ensures.within, c.depth.ensures.value)) _ is

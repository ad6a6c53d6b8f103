use Rattle.std.proofs.Common.{◌<◌, length, arith, sym, ◌∙◌}
use Rattle.gdbindex_read.specs.Pool.{elements_seen}
use Rattle.gdbindex_read.proofs.Vectors.{length-seen, element}
use Rattle.gdbindex_read.proofs.elements.Elements.get.Goals as goal

pub overflow_mul-i : goal.overflow_mul-i
overflow_mul-i c =
    let lt : c.args.i < length (elements_seen c.self.inside.bytes.now) = rw c.self.view_is c.requires in
    omega (arith, lt, length-seen c.self.inside.bytes.now)

pub u32_at-requires : goal.u32_at-requires
u32_at-requires c =
    let lt : c.args.i < length (elements_seen c.self.inside.bytes.now) = rw c.self.view_is c.requires in
    omega (arith, lt, length-seen c.self.inside.bytes.now)

pub returns : goal.returns
returns c =
    let lt : c.args.i < length (elements_seen c.self.inside.bytes.now) = rw c.self.view_is c.requires in
    rw (← c.self.view_is) (c.u32_at.ensures ∙ sym (element c.self.inside.bytes.now c.args.i lt))

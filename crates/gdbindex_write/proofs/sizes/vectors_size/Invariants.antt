use Rattle.std.proofs.Common.{◌≡◌, ◌-◌, ◌^◌, min, take}
use Rattle.gdbindex_write.specs.Pools.{vectors_seen}
use Rattle.gdbindex_write.specs.Sizes.{vectors_size}
use Rattle.gdbindex_write.proofs.sizes.vectors_size.Given as goal

abbrev pub invariant-loop-vector : goal.invariant-loop-vector
invariant-loop-vector l = l.size ≡ min (vectors_size (vectors_seen (take l.vector-index l.vectors))) (2 ^ 64 - 1)

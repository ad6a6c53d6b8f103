use Rattle.std.proofs.Common.{◌≡◌, ◌+◌, ◌-◌, ◌^◌, min, length, take}
use Rattle.std.specs.Prelude.{flat_map}
use Rattle.debugnames_write.proofs.PoolLaws.{item_bytes}
use Rattle.debugnames_write.proofs.pool.group_size.Given as goal

abbrev pub invariant-loop-item : goal.invariant-loop-item
invariant-loop-item l = l.size ≡ min (length (flat_map (item_bytes l.abbreviations) (take l.item-index l.items)) + 1) (2 ^ 64 - 1)

use Rattle.std.proofs.Common.{◌≡◌, ◌++◌, take}
use Rattle.std.specs.Prelude.{flat_map}
use Rattle.debugnames_write.proofs.PoolLaws.{item_bytes}
use Rattle.debugnames_write.proofs.pool.push_group.Given as goal

abbrev pub invariant-loop-item : goal.invariant-loop-item
invariant-loop-item l = l.out.items ≡ l.initial.out.items ++ flat_map (item_bytes l.abbreviations) (take l.item-index l.items)

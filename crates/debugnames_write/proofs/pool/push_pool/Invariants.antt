use Rattle.std.proofs.Common.{◌≡◌, ◌++◌, take}
use Rattle.std.specs.Prelude.{flat_map}
use Rattle.debugnames_write.proofs.PoolLaws.{name_bytes}
use Rattle.debugnames_write.proofs.pool.push_pool.Given as goal

abbrev pub invariant-loop-name : goal.invariant-loop-name
invariant-loop-name l = l.out.items ≡ l.initial.out.items ++ flat_map (name_bytes l.abbreviations) (take l.name-index l.names)

use Rattle.std.proofs.Common.{◌≡◌, ◌++◌, take}
use Rattle.debugnames_write.specs.Laid.{hash_bytes}
use Rattle.debugnames_write.proofs.index.push_hashes.Given as goal

abbrev pub invariant-loop-name : goal.invariant-loop-name
invariant-loop-name l = l.out.items ≡ l.initial.out.items ++ hash_bytes (take l.name-index l.names)

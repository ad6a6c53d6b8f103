use Rattle.std.proofs.Common.{◌≡◌, ◌+◌, ◌-◌, ◌*◌, ◌^◌, ◌%◌, ◌<◌, take}
use Rattle.std.specs.Prelude.{fold}
use Rattle.index_model.specs.Hashes.{lower}
use Rattle.gdbindex_write.proofs.slots.gdb_hash.Given as goal

abbrev pub invariant-loop-byte : goal.invariant-loop-byte
invariant-loop-byte l = record {
  exact : l.hash ≡ fold (λ r c. (r * 67 + lower c + 2 ^ 32 - 113) % 2 ^ 32) 0 (take l.byte-index l.name);
  small : l.hash < 2 ^ 32;
}

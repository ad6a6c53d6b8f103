use Rattle.std.proofs.Common.{◌≡◌, ◌+◌, ◌*◌, ◌%◌, ◌^◌, take, fold}
use Rattle.index_model.specs.Hashes.{lower}
use Rattle.debugnames_write.proofs.hash.name_hash.Given as goal

abbrev pub invariant-loop-byte : goal.invariant-loop-byte
invariant-loop-byte l = l.hash ≡ fold (λ h c. (h * 33 + lower c) % 2 ^ 32) 5381 (take l.byte-index l.name)

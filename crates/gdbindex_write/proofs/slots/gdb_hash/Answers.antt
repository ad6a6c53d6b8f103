use Rattle.std.proofs.Common.{arith}
use Rattle.std.proofs.lemmas.List.{take_all}
use Rattle.index_model.specs.Hashes.{gdb_hash}
use Rattle.gdbindex_write.proofs.slots.gdb_hash.Goals as goal

pub returns : goal.returns
unfolding gdb_hash
returns c =
    let all = take_all c.loop-byte.byte-index c.args.name.now (omega arith) in
    rw all at c.loop-byte.invariant.exact

use Rattle.std.proofs.lemmas.List.{take_all}
use Rattle.index_model.specs.Hashes.{name_hash}
use Rattle.debugnames_write.proofs.hash.name_hash.Goals as goal

pub returns : goal.returns
unfolding name_hash
returns c = let whole = take_all c.loop-byte.byte-index c.args.name.now c.loop-byte-test.false in rw whole at c.loop-byte.invariant

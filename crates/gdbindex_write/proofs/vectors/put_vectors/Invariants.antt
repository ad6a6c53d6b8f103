use Rattle.std.proofs.Common.{◌≡◌, ◌++◌, take}
use Rattle.std.specs.Prelude.{flat_map}
use Rattle.index_model.specs.GdbIndex.{vector_bytes}
use Rattle.gdbindex_write.proofs.vectors.put_vectors.Given as goal

abbrev pub invariant-loop-vector : goal.invariant-loop-vector
invariant-loop-vector l = l.out.items ≡ l.initial.out.items ++ flat_map (λ v. vector_bytes v.now) (take l.vector-index l.vectors)

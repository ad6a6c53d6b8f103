use Rattle.std.proofs.Common.{◌≡◌, map, take}
use Rattle.index_model.specs.Layout.{below}
use Rattle.gdbindex_write.specs.Pools.{vectors_seen}
use Rattle.gdbindex_write.specs.Sizes.{vectors_size}
use Rattle.gdbindex_write.proofs.places.vector_starts.Given as goal

abbrev pub invariant-loop-vector : goal.invariant-loop-vector
invariant-loop-vector l = record {
  made : l.starts.items ≡ map (λ k. vectors_size (vectors_seen (take k l.vectors))) (below l.vector-index);
  next : l.start ≡ vectors_size (vectors_seen (take l.vector-index l.vectors));
}

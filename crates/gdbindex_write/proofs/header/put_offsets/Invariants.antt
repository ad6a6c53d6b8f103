use Rattle.std.proofs.Common.{◌≡◌, ◌++◌}
use Rattle.std.specs.Prelude.{flat_map}
use Rattle.index_model.specs.Layout.{below, u32_bytes}
use Rattle.gdbindex_write.specs.Header.{offset_of}
use Rattle.gdbindex_write.proofs.header.put_offsets.Given as goal

abbrev pub invariant-loop-size : goal.invariant-loop-size
invariant-loop-size l = record {
  made : l.out.items ≡ l.initial.out.items ++ flat_map (λ k. u32_bytes (offset_of l.sizes k)) (below l.size-index);
  next : l.at ≡ offset_of l.sizes l.size-index;
}

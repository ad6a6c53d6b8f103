use Rattle.std.proofs.Common.{◌≡◌, ◌++◌, take}
use Rattle.std.specs.Prelude.{flat_map}
use Rattle.index_model.specs.Layout.{u32_bytes}
use Rattle.gdbindex_write.proofs.vectors.put_vector.Given as goal

abbrev pub invariant-loop-element : goal.invariant-loop-element
invariant-loop-element l = l.out.items ≡ l.initial.out.items ++ flat_map u32_bytes (take l.element-index l.elements)

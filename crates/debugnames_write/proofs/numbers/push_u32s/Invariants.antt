use Rattle.std.proofs.Common.{◌≡◌, ◌++◌, take}
use Rattle.std.specs.Prelude.{flat_map}
use Rattle.index_model.specs.Layout.{u32_bytes}
use Rattle.debugnames_write.proofs.numbers.push_u32s.Given as goal

abbrev pub invariant-loop-number : goal.invariant-loop-number
invariant-loop-number l = l.out.items ≡ l.initial.out.items ++ flat_map u32_bytes (take l.number-index l.numbers)

use Rattle.std.proofs.Common.{◌≡◌, ◌-◌, ◌^◌, ◌≤◌, min, take}
use Rattle.gdbindex_write.specs.Sizes.{names_size}
use Rattle.gdbindex_write.specs.Symbols.{names_of}
use Rattle.gdbindex_write.proofs.sizes.names_size.Given as goal

abbrev pub invariant-loop-symbol : goal.invariant-loop-symbol
invariant-loop-symbol l = record {
  exact : l.size ≡ min (names_size (names_of (take l.symbol-index l.symbols))) (2 ^ 64 - 1);
  some : l.size ≤ 4294967295 → l.symbol-index ≤ l.size;
}

use Rattle.std.proofs.Common.{◌≡◌, ◌+◌, map, take}
use Rattle.index_model.specs.Layout.{below}
use Rattle.gdbindex_write.specs.Places.{place_at}
use Rattle.gdbindex_write.specs.Sizes.{names_size}
use Rattle.gdbindex_write.specs.Symbols.{names_of}
use Rattle.gdbindex_write.proofs.places.places.Given as goal

abbrev pub invariant-loop-i : goal.invariant-loop-i
invariant-loop-i l = record {
  made : l.places.items ≡ map (place_at l.symbols l.vectors.distinct.items l.vectors.numbers.items) (below l.i);
  next : l.name ≡ l.names_at + names_size (names_of (take l.i l.symbols));
}

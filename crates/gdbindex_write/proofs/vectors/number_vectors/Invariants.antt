use Rattle.std.proofs.Common.{◌≡◌, List, ℕ, map, take}
use Rattle.std.specs.Prelude.{bytes_eq}
use Rattle.index_model.specs.Ordered.{distinct, place_of}
use Rattle.gdbindex_write.specs.Pools.{vectors_seen}
use Rattle.gdbindex_write.specs.Symbols.{vectors_of}
use Rattle.gdbindex_write.proofs.vectors.number_vectors.Given as goal

abbrev pub invariant-loop-symbol : goal.invariant-loop-symbol
invariant-loop-symbol l =
    let all : List (List ℕ) = vectors_of l.symbols.elements.items l.symbols.list.items in
    let front : List (List ℕ) = take l.symbol-index all in
    record {
      set : vectors_seen l.set.keys ≡ distinct bytes_eq front;
      numbered : l.numbers.items ≡ map (λ w. place_of bytes_eq w (distinct bytes_eq all)) front;
    }

use Rattle.std.proofs.Common.{◌≡◌, ◌++◌, take}
use Rattle.std.specs.Prelude.{flat_map}
use Rattle.gdbindex_write.specs.Addresses.{piece_bytes}
use Rattle.gdbindex_write.proofs.addresses.put_address_area.Given as goal

abbrev pub invariant-loop-piece : goal.invariant-loop-piece
invariant-loop-piece l = l.out.items ≡ l.initial.out.items ++ flat_map (piece_bytes l.numbers) (take l.piece-index l.pieces)

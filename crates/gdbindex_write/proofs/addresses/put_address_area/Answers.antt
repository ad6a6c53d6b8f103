use Rattle.common_laws.proofs.Appended.{no_part, more_parts, all_parts}
use Rattle.gdbindex_write.specs.Addresses.{piece_bytes}
use Rattle.index_model.specs.declared.range.UnitRange.{UnitRange}
use Rattle.gdbindex_write.proofs.addresses.put_address_area.Goals as goal

abbrev no_piece : UnitRange
no_piece = record { range = record { low = 0; end = 0 }; unit = 0 }

pub put_piece-requires : goal.put_piece-requires
put_piece-requires c = c.requires c.loop-piece.piece-index no_piece c.loop-piece-test.true

pub loop-piece-init : goal.loop-piece-init
loop-piece-init c = no_part (piece_bytes c.args.numbers.now) c.args.pieces.now c.args.out.now.items

pub loop-piece-preserved : goal.loop-piece-preserved
loop-piece-preserved c = more_parts (piece_bytes c.args.numbers.now) c.args.pieces.now c.loop-piece.piece-index no_piece c.args.out.now.items c.loop-piece-test.true c.loop-piece.invariant c.in_ok-put_piece.ensures

pub returns : goal.returns
returns c = all_parts (piece_bytes c.args.numbers.now) c.args.pieces.now c.loop-piece.piece-index c.args.out.now.items c.loop-piece-test.false c.loop-piece.invariant

use Rattle.std.proofs.Common.{◌++◌, take}
use Rattle.index_model.specs.Pieces.{edges_of}
use Rattle.aranges_read.proofs.Edges.{piece_more, all_pieces}
use Rattle.aranges_read.proofs.difference.first_at_edges.Goals as goal

pub pieces-preserved : goal.pieces-preserved
pieces-preserved c = λ front f.
    piece_more c.args.table.now c.args.own.now front c.args.pieces.now c.pieces.piece-index _ c.first_or_at-first-in-pieces.result c.pieces-test.true
    (c.first_or_at-first-in-pieces.ensures _ (c.first_or_at-first.ensures (front ++ edges_of (take c.pieces.piece-index c.args.pieces.now)) (c.pieces.invariant front f)))

pub returns : goal.returns
returns c = λ front f. all_pieces c.args.table.now c.args.own.now front c.args.pieces.now c.pieces.piece-index c.pieces.first c.pieces-test.false (c.pieces.invariant front f)

use Rattle.std.proofs.Common.{ℕ, List, ◌++◌, take}
use Rattle.index_model.specs.Pieces.{edges_of}
use Rattle.aranges_read.specs.Edges.{IsFirstAmong}
use Rattle.aranges_read.proofs.difference.first_at_edges.Given as goal

abbrev pub invariant-pieces : goal.invariant-pieces
invariant-pieces l = (front : List ℕ) → IsFirstAmong l.table l.own front l.initial.first → IsFirstAmong l.table l.own (front ++ edges_of (take l.piece-index l.pieces)) l.first

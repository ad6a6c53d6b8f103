use Rattle.std.proofs.Common.{◌≡◌, ◌++◌}
use Rattle.name_forms.specs.Pieces.{pointed}
use Rattle.name_forms.proofs.LengthLaws.{points}
use Rattle.name_forms.proofs.decoding.push_pieces.Given as goal

abbrev pub invariant-loop-piece : goal.invariant-loop-piece
invariant-loop-piece l = l.text.items ++ points l.piece-iterator ≡ l.fn.text.items ++ pointed l.fn.pieces

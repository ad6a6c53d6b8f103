use Rattle.index_board.proofs.Waits.{Goes}
use Rattle.index_board.proofs.reader.Reader.wait.Given as goal

abbrev pub invariant-loop : goal.invariant-loop
invariant-loop g l = Goes l.initial.self l.self

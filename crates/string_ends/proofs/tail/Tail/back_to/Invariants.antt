use Rattle.std.proofs.Common.{◌≡◌, ◌+◌}
use Rattle.string_ends.specs.Tails.{IsTail}
use Rattle.string_ends.proofs.tail.Tail.back_to.Given as goal

abbrev pub invariant-loop-passed : goal.invariant-loop-passed
invariant-loop-passed l = record {
  tail : IsTail l.formula l.strings l.tail;
  place : l.tail.at + l.passed ≡ l.fn.self.at;
}

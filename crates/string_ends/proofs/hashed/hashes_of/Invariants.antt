use Rattle.string_ends.specs.Tails.{AreHashed, IsTail}
use Rattle.string_ends.proofs.hashed.hashes_of.Given as goal

abbrev pub invariant-loop-passed : goal.invariant-loop-passed
invariant-loop-passed l = record {
  tail : IsTail l.formula l.strings l.tail;
  hashes : AreHashed l.formula l.strings l.offsets l.hashes.items;
}

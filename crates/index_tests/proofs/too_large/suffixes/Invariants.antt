use Rattle.std.proofs.Common.{◌≤◌, length}
use Rattle.query_engine.specs.Asked.{TailsFit}
use Rattle.index_tests.proofs.too_large.suffixes.Given as goal

abbrev pub invariant-loop-i : goal.invariant-loop-i
invariant-loop-i l = record {
  tails : TailsFit l.entries.items;
  few : length l.entries.items ≤ l.i;
}

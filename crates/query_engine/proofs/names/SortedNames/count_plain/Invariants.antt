use Rattle.std.proofs.Common.{◌≡◌, ◌≤◌}
use Rattle.query_engine.proofs.PlainLaws.{plain_upto}
use Rattle.query_engine.proofs.names.SortedNames.count_plain.Given as goal

abbrev pub invariant-loop-index : goal.invariant-loop-index
invariant-loop-index l = record {
  counted : l.count ≡ plain_upto l.entries l.self l.index;
  few : l.count ≤ l.index;
}

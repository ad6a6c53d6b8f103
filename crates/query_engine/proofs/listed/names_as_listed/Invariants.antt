use Rattle.std.proofs.Common.{◌≤◌, length}
use Rattle.query_engine.specs.Listed.{AreListedTo}
use Rattle.query_engine.proofs.listed.names_as_listed.Given as goal

abbrev pub invariant-loop-index : goal.invariant-loop-index
invariant-loop-index g l = record {
  within : l.passed ≤ length l.simple.groups.items;
  listed : AreListedTo l.entries l.names l.simple l.index l.passed l.listed;
}

use Rattle.std.proofs.Common.{ℕ, ◌≤◌, length}
use Rattle.query_engine.specs.Listed.{AreListedTo, EndsAt}
use Rattle.query_engine.proofs.listed.BothOrders.push_simple_below.Given as goal

abbrev pub invariant-loop-index : goal.invariant-loop-index
invariant-loop-index l = record {
  within : l.index ≤ length l.self.simple.now.groups.items;
  listed : (k : ℕ) → EndsAt l.self.entries.now l.self.names.now k l.end → AreListedTo l.self.entries.now l.self.names.now l.self.simple.now k l.passed l.initial.listed → AreListedTo l.self.entries.now l.self.names.now l.self.simple.now k l.index l.listed;
}

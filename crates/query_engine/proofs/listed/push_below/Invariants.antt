use Rattle.std.proofs.Common.{◌≡◌, ◌≤◌, ◌++◌, length, drop}
use Rattle.query_engine.specs.Listed.{take_below, drop_below}
use Rattle.query_engine.proofs.listed.push_below.Given as goal

abbrev pub invariant-loop-index : goal.invariant-loop-index
invariant-loop-index l = record {
  within : l.index ≤ length l.plain;
  below : l.places.items ++ take_below l.end (drop l.index l.plain) ≡ l.initial.places.items ++ take_below l.end (drop l.passed l.plain);
  behind : drop_below l.end (drop l.index l.plain) ≡ drop_below l.end (drop l.passed l.plain);
}

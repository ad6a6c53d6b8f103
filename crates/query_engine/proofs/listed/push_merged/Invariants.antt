use Rattle.std.proofs.Common.{◌≡◌, ◌≤◌, ◌++◌, length, drop}
use Rattle.query_engine.specs.Listed.{merged}
use Rattle.query_engine.proofs.listed.push_merged.Given as goal

abbrev pub invariant-loop-place : goal.invariant-loop-place
invariant-loop-place l = record {
  within : l.passed ≤ length l.plain;
  goes_on : l.places.items ++ merged l.marked (drop l.place-index l.named) (drop l.passed l.plain) ≡ l.initial.places.items ++ merged l.marked l.named l.plain;
}

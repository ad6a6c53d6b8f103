use Rattle.std.proofs.Common.{◌≡◌}
use Rattle.entry_scan.specs.Fronts.{IsFront}
use Rattle.entry_scan.proofs.sizes.front_of.Given as goal

-- the front so far, of all that were passed
abbrev pub invariant-loop-spec : goal.invariant-loop-spec
invariant-loop-spec l = record {
  front : IsFront l.specs l.front;
  count : l.front.count ≡ l.spec-index;
}

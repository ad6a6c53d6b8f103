use Rattle.std.proofs.Common.{◌≡◌, ℕ, None}
use Rattle.entry_scan.specs.Jumps.{Take, LacksBefore, AreJumps, slot}
use Rattle.entry_scan.proofs.jumps.Jumps.of.Given as goal

-- the jumps of all that were passed, whose values take the front's bytes
abbrev pub invariant-loop-spec : goal.invariant-loop-spec
invariant-loop-spec l = record {
  count : l.front.count ≡ l.spec-index;
  takes : Take l.spec-index l.front.bytes l.specs;
  are : AreJumps l.specs l.jumps;
  lacks : (number : ℕ) → slot l.jumps number ≡ None → LacksBefore l.spec-index number l.specs;
}

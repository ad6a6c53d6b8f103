use Rattle.address_map.proofs.Ascending.{IsTested}
use Rattle.address_map.proofs.overlay.is_ascending.Given as goal

-- the ranges so far ascend up to from
abbrev pub invariant-pass : goal.invariant-pass
invariant-pass l = IsTested l.ranges l.range-index l.from

use Rattle.address_map.proofs.Ascending.{IsJoined}
use Rattle.address_map.proofs.overlay.join.Given as goal

-- the ranges so far are joined
abbrev pub invariant-pass : goal.invariant-pass
invariant-pass l = IsJoined l.ranges l.range-index l.pieces.items

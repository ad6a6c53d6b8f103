use Rattle.address_map.proofs.Laying.{IsLaid}
use Rattle.address_map.proofs.overlay.over.Given as goal

-- the first list so far is laid over the second
abbrev pub invariant-first : goal.invariant-first
invariant-first l = IsLaid l.first l.second l.piece-index l.from l.rest l.pieces.items

use Rattle.address_map.proofs.Filling.{IsFilledBy, gap_of}
use Rattle.address_map.proofs.overlay.follow.Given as goal

-- what the others so far have from the address on
abbrev pub invariant-others : goal.invariant-others
invariant-others l = IsFilledBy (gap_of l.from l.others) l.fn.pieces.items l.others l.other-index l.pieces.items

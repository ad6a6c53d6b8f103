use Rattle.address_map.proofs.Filling.{IsFilledBy}
use Rattle.address_map.proofs.overlay.fill.Given as goal

-- what the others so far have in the gap
abbrev pub invariant-others : goal.invariant-others
invariant-others l = IsFilledBy l.gap l.fn.pieces.items l.others l.count l.pieces.items

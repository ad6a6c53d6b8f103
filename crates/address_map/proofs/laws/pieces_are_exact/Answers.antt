use Rattle.address_map.proofs.Order.{pieces_in_order}
use Rattle.address_map.proofs.FirstUnit.{pieces_have_the_first}
use Rattle.address_map.proofs.laws.pieces_are_exact.Goals as goal

pub returns-clause-order : goal.returns-clause-order
returns-clause-order c = pieces_in_order

pub returns-clause-first : goal.returns-clause-first
returns-clause-first c = pieces_have_the_first

use Rattle.address_map.proofs.Halves.{are_the_pieces}
use Rattle.address_map.proofs.FirstUnit.{first_of_pieces}
use Rattle.address_map.proofs.map.AddressMap.build.Goals as goal

pub returns-clause-map : goal.returns-clause-map
returns-clause-map c = are_the_pieces c.args.ranges.now c.in_ok-pieces.pieces.items c.in_ok-pieces.ensures

pub returns-clause-first : goal.returns-clause-first
returns-clause-first c = first_of_pieces c.args.ranges.now c.in_ok-pieces.pieces.items c.in_ok-pieces.ensures

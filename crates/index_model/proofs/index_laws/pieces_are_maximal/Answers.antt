use Rattle.index_model.proofs.PieceLaws.{pieces_are, pieces_unique}
use Rattle.index_model.proofs.MaximalLaws.{pieces_are_maximal}
use Rattle.index_model.proofs.index_laws.pieces_are_maximal.Goals as goal

pub returns-clause-units : goal.returns-clause-units
returns-clause-units c = pieces_are

pub returns-clause-maximal : goal.returns-clause-maximal
returns-clause-maximal c = pieces_are_maximal

pub returns-clause-no_others : goal.returns-clause-no_others
returns-clause-no_others c = pieces_unique

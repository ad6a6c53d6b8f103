use Rattle.std.proofs.Common.{List, sym, subst}
use Rattle.index_model.specs.declared.unit.Unit.{Unit as UnitHeader}
use Rattle.stage_core.specs.Cut.{HasUnits}
use Rattle.index_board.proofs.Openings.{cut_by, has_units}
use Rattle.index_board.proofs.board.Board.with_image.Goals as goal

pub new-requires-clause-units : goal.new-requires-clause-units
new-requires-clause-units c = subst (λ (units : List UnitHeader). HasUnits c.args.file.now units) (sym c.units.ensures.value) (has_units c.args.file.now c.args.image c.requires.image)

pub returns-clause-cut : goal.returns-clause-cut
returns-clause-cut c = cut_by c.over.result (λ made. made.0.subject) c.in_ok-core.core.subject c.args.file.now c.args.image c.units.result.now c.args.shards c.requires.image c.units.ensures.value c.in_ok-core.ensures.cut c.over.ensures.subject

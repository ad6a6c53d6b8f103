use Rattle.gdb_reach.proofs.RunLaws.{answered}
use Rattle.gdb_reach.proofs.run.answer_to.Goals as goal

pub returns-clause-is : goal.returns-clause-is
returns-clause-is c r passed d stands behind told =
    answered r d c.look-look.result c.in_ok-is_open.is_open c.open_around-open_around.result (c.look-look.ensures r passed d stands behind told.item) (c.in_ok-is_open.ensures.is_open r passed d stands behind told.item told.name)
    (c.open_around-open_around.ensures.by_class r passed d stands behind told.item.depth)

pub returns-clause-stands : goal.returns-clause-stands
returns-clause-stands c r passed d stands behind told = c.in_ok-is_open.ensures.ok r passed d stands behind told.item told.name told.token

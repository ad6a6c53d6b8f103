use Rattle.stage_core.proofs.CoreLaws.{sound_is_right, sound_follows}
use Rattle.stage_core.proofs.machine.core_is_right.Goals as goal

pub returns-clause-right : goal.returns-clause-right
returns-clause-right c = sound_is_right c.core.inside c.args.core.now c.core.view_is c.core.invariant

pub returns-clause-follows : goal.returns-clause-follows
returns-clause-follows c = sound_follows c.core.inside c.args.core.now c.core.view_is c.core.invariant

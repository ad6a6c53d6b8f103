use Rattle.stage_core.proofs.CoreLaws.{sound_is_right}
use Rattle.stage_core.proofs.machine.Core.current_stage.Goals as goal

pub returns-clause-right : goal.returns-clause-right
returns-clause-right c = sound_is_right c.self.inside c.args.self.now c.self.view_is c.self.invariant

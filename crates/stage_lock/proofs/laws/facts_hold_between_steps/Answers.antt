use Rattle.stage_lock.proofs.FactsHold.{facts_hold}
use Rattle.stage_lock.proofs.laws.facts_hold_between_steps.Goals as goal

pub returns : goal.returns
returns g c = facts_hold g.V.Staged.stage_of g.V.Staged.subject g.V.Staged.fits

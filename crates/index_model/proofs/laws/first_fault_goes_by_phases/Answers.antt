use Rattle.index_model.proofs.FaultLaws.{first_by_phases}
use Rattle.index_model.proofs.laws.first_fault_goes_by_phases.Goals as goal

pub returns : goal.returns
returns c = first_by_phases

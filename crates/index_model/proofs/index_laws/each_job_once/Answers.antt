use Rattle.index_model.proofs.MachineOnce.{each_job_once}
use Rattle.index_model.proofs.index_laws.each_job_once.Goals as goal

pub returns : goal.returns
returns c = each_job_once

use Rattle.index_model.proofs.SlotLaws.{each_name_has_its_slot}
use Rattle.index_model.proofs.index_laws.each_name_has_its_slot.Goals as goal

pub returns-clause-first : goal.returns-clause-first
returns-clause-first c names small = (each_name_has_its_slot names small).0

pub returns-clause-own : goal.returns-clause-own
returns-clause-own c names small = (each_name_has_its_slot names small).1

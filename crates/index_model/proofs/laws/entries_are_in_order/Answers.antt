use Rattle.index_model.proofs.EntryLaws.{entries_in_order}
use Rattle.index_model.proofs.laws.entries_are_in_order.Goals as goal

pub returns : goal.returns
returns c = entries_in_order

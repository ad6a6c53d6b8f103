use Rattle.index_model.proofs.OrderLaws.{walks_in_order}
use Rattle.index_model.proofs.laws.walks_are_in_order.Goals as goal

pub returns : goal.returns
returns c = walks_in_order

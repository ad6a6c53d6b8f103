use Rattle.query_engine.proofs.FrontLaws.{order_of_fronts}
use Rattle.query_engine.proofs.spelling.FrontedText.order.Goals as goal

pub returns-in_default : goal.returns-in_default
returns-in_default c = order_of_fronts _ _ c.args.self.now.front c.args.other.now.front c.args.self.now.front_is c.args.other.now.front_is c.cmp.result c.cmp.ensures c.in_default.not-Equal

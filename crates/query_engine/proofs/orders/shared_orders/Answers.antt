use Rattle.query_engine.proofs.SpelledLaws.{all_whole}
use Rattle.query_engine.proofs.orders.shared_orders.Goals as goal

pub returns : goal.returns
returns g c entries labelled = record {
  names = c.in_ok-by_name.ensures entries labelled;
  simple = all_whole entries c.args.labelled.now labelled c.requires.whole;
}

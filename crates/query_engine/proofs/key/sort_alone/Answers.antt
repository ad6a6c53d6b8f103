use Rattle.query_engine.proofs.ResultLaws.{on_ok}
use Rattle.query_engine.proofs.SortLaws.{is_sort}
use Rattle.query_engine.proofs.key.sort_alone.Goals as goal

pub returns : goal.returns
returns c = on_ok c.sort.result _ _ (is_sort c.args.keys.now.items c.sort.new.self.items c.sort.ensures.permutation) c.sort.ensures.sorted

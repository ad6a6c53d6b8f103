use Rattle.query_engine.proofs.ResultLaws.{on_ok}
use Rattle.query_engine.proofs.SortLaws.{is_sort}
use Rattle.query_engine.proofs.key.sort_keys.Goals as goal

pub returns : goal.returns
returns g c = on_ok c.par_sort.result _ _ (is_sort _ _ c.par_sort.ensures.permutation) c.par_sort.ensures.sorted

use Rattle.std.proofs.Common.{◌-◌, length}
use Rattle.query_engine.proofs.SearchLaws.{IsBetween, IsHalved}
use Rattle.query_engine.proofs.search.find.Given as goal

abbrev pub invariant-loop-low : goal.invariant-loop-low
invariant-loop-low g l = record {
  between : IsBetween l.entries l.names l.asked.bytes.now l.low l.high;
  halved : IsHalved (length l.names.groups.items) l.fn.steps l.steps (l.high - l.low);
}

abbrev pub decreases-loop-low : goal.decreases-loop-low
decreases-loop-low g l = l.high - l.low

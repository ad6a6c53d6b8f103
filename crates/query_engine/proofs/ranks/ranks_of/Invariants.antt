use Rattle.std.proofs.Common.{◌≡◌, length}
use Rattle.query_engine.specs.Ranks.{AreRanksIn}
use Rattle.query_engine.specs.Seen.{pairs_seen, texts_seen}
use Rattle.query_engine.proofs.RankLaws.{IsLast}
use Rattle.query_engine.proofs.ranks.ranks_of.Given as goal

abbrev pub invariant-loop-i : goal.invariant-loop-i
invariant-loop-i l = record {
  size : length l.ranks.items ≡ length l.keys;
  ranks : AreRanksIn (pairs_seen l.keys) (texts_seen l.distinct.items) l.ranks.items l.i;
  last : IsLast (pairs_seen l.keys) (texts_seen l.distinct.items) l.i;
}

use Rattle.std.proofs.Common.{arith}
use Rattle.std.proofs.lemmas.List.Edits.{map_over_more}
use Rattle.query_engine.specs.Marks.{ranked}
use Rattle.query_engine.proofs.marks.rank_marks.Goals as goal

pub loop-i-preserved : goal.loop-i-preserved
loop-i-preserved c =
    let i = c.loop-i.i in
    map_over_more (ranked c.args.ranks.now) c.args.marks.now.items c.loop-i.marks.items i c.index-mark.result.now (omega arith) c.loop-i.invariant c.index-mark.ensures

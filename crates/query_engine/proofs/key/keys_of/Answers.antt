use Rattle.std.proofs.lemmas.List.{map-append}
use Rattle.query_engine.proofs.SeenLaws.{listed_more}
use Rattle.query_engine.proofs.key.keys_of.Goals as goal

pub loop-number-preserved : goal.loop-number-preserved
loop-number-preserved c = rw (c.in_ok-push.ensures.items, map-append, c.loop-number.invariant) (listed_more c.args.texts.now c.loop-number.number c.index-texts-number.result c.loop-number-test.true c.index-texts-number.is)

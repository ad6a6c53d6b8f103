use Rattle.gdb_reach.proofs.RunLaws.{begins, ends, one_told}
use Rattle.gdb_reach.proofs.run.answers.Goals as goal

pub loop-item-init : goal.loop-item-init
loop-item-init c r keep class file keeps told =
    begins r keep c.new-reached.result c.new-answers.result.items c.args.items.now (c.new-reached.ensures r class) c.new-answers.ensures.items told

pub loop-item-preserved : goal.loop-item-preserved
loop-item-preserved c r keep class file keeps told =
    one_told r keep file keeps c.loop-item.reached c.loop-item.answers.items c.args.items.now c.loop-item.item-index _ c.loop-item-test.true (c.loop-item.invariant r keep class file keeps told)
    c.answer_to.new.reached c.in_ok-answer_to.field-0 c.push.new.self.items (c.in_ok-answer_to.ensures.is r) (c.in_ok-answer_to.ensures.stands r) c.in_ok-push.ensures.items

pub returns : goal.returns
returns c r keep class file keeps told =
    ends r keep c.loop-item.reached c.loop-item.answers.items c.args.items.now c.loop-item.item-index c.loop-item-test.false (c.loop-item.invariant r keep class file keeps told)

use Rattle.std.proofs.Common.{subst}
use Rattle.index_model.specs.Answers.{Reply}
use Rattle.index_model.specs.Seen.{answer_seen}
use Rattle.command_base.specs.Replies.{SaysReply, Wrote}
use Rattle.command_base.proofs.ReplyLaws.{answered_in}
use Rattle.command_base.proofs.gdb.answer_short.Goals as goal

pub returns-clause-wrote : goal.returns-clause-wrote
returns-clause-wrote g c =
    subst (λ (r : Reply). Wrote (SaysReply r) c.write.result (g.K.Sink.written c.args.out.now) (g.K.Sink.written c.write.new.out)) (answered_in c.args.spelling (answer_seen c.args.answer)) c.write.ensures.wrote

use Rattle.std.proofs.Common.{Some, None, sym, ap, ◌∙◌, arith}
use Rattle.std.specs.Prelude.{option_map}
use Rattle.index_model.specs.Answers.{Refused}
use Rattle.index_model.specs.Seen.{answer_seen, query_seen}
use Rattle.stage_core.specs.Outputs.{parts_seen}
use Rattle.index_board.proofs.Looks.{pending, answered, refused, stopped}
use Rattle.index_board.proofs.reply.reply.Goals as goal

pub returns-then-stage-need_of : goal.returns-then-stage-need_of
returns-then-stage-need_of c = pending (parts_seen c.args.parts.now) (query_seen c.args.query.now) c.args.stage (omega (arith, c.if-stage-need_of.true, c.need_of.ensures.need))

pub returns-in-Some : goal.returns-in-Some
returns-in-Some c = ap (option_map Refused) (sym c.in-Some.is) ∙ refused (parts_seen c.args.parts.now) (query_seen c.args.query.now) c.args.stage (omega (arith, c.if-stage-need_of.false, c.need_of.ensures.need)) c.in-4.is

pub returns-in-None : goal.returns-in-None
returns-in-None c = ap (option_map Refused) (sym c.in-None.is) ∙ refused (parts_seen c.args.parts.now) (query_seen c.args.query.now) c.args.stage (omega (arith, c.if-stage-need_of.false, c.need_of.ensures.need)) c.in-4.is

pub returns-in-Some-answer : goal.returns-in-Some-answer
returns-in-Some-answer c = answered (parts_seen c.args.parts.now) (query_seen c.args.query.now) c.args.stage (omega (arith, c.if-stage-need_of.false, c.need_of.ensures.need)) (omega (arith, c.in-0-to-3)) (Some (answer_seen c.in-Some-answer.answer)) c.in-Some-answer.ensures

pub returns-in-None-answer : goal.returns-in-None-answer
returns-in-None-answer c = answered (parts_seen c.args.parts.now) (query_seen c.args.query.now) c.args.stage (omega (arith, c.if-stage-need_of.false, c.need_of.ensures.need)) (omega (arith, c.in-0-to-3)) None c.in-None-answer.ensures

pub returns-in_default : goal.returns-in_default
returns-in_default c = stopped (parts_seen c.args.parts.now) (query_seen c.args.query.now) c.args.stage (omega (arith, c.if-stage-need_of.false, c.need_of.ensures.need)) (omega (arith, c.in_default))

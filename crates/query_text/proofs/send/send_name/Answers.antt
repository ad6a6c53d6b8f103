use Rattle.std.proofs.lemmas.Result.{on_ok_weaker, on_err_weaker}
use Rattle.index_model.specs.Texts.{newline}
use Rattle.name_quotes.specs.Quotes.{spelled}
use Rattle.query_text.proofs.SendingLaws.{on_err, prefix_of_text, sends_more, sends_prefix}
use Rattle.query_text.proofs.send.send_name.Goals as goal

pub returns-in_err-send_spelled-clause-left : goal.returns-in_err-send_spelled-clause-left
returns-in_err-send_spelled-clause-left g c =
    on_err c.from_residual.result (prefix_of_text _ _ c.args.waiting.now (spelled c.args.spelling c.args.name.now) newline c.in_err-send_spelled.ensures.left)

pub returns-clause-ok : goal.returns-clause-ok
returns-clause-ok g c =
    on_ok_weaker c.send.result (λ q. sends_more _ _ _ _ _ _ (spelled c.args.spelling c.args.name.now) newline c.in_ok-send_spelled.ensures.ok q) c.send.ensures.ok

pub returns-clause-left : goal.returns-clause-left
returns-clause-left g c =
    on_err_weaker c.send.result (λ q. sends_prefix _ _ _ _ _ (spelled c.args.spelling c.args.name.now) newline c.in_ok-send_spelled.ensures.ok q) c.send.ensures.left

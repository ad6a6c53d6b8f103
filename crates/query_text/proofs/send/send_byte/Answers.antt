use Rattle.name_quotes.specs.Quotes.{quoted_byte}
use Rattle.query_text.proofs.SendingLaws.{on_err, prefix_of_front}
use Rattle.query_text.proofs.send.send_byte.Goals as goal

pub returns-in_err-make_room-clause-left : goal.returns-in_err-make_room-clause-left
returns-in_err-make_room-clause-left g c =
    on_err c.from_residual.result (prefix_of_front _ _ c.args.waiting.now (quoted_byte c.args.byte) c.in_err-make_room.ensures.left)

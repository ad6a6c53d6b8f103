use Rattle.std.proofs.lemmas.Result.{on_ok_weaker, on_err_weaker}
use Rattle.query_text.proofs.SendingLaws.{on_err, prefix_of_front, sends_past, prefix_past}
use Rattle.query_text.proofs.send.send.Goals as goal

pub returns-in_err-make_room-clause-left : goal.returns-in_err-make_room-clause-left
returns-in_err-make_room-clause-left g c =
    on_err c.from_residual.result (prefix_of_front _ _ c.args.waiting.now c.args.piece.now c.in_err-make_room.ensures.left)

pub returns-then-piece-room_left-clause-ok : goal.returns-then-piece-room_left-clause-ok
returns-then-piece-room_left-clause-ok g c =
    on_ok_weaker c.write_all.result (λ q. sends_past _ _ _ _ c.args.piece.now c.room_left.result c.in_ok-make_room.ensures.ok c.in_ok-make_room.ensures.room c.if-piece-room_left.true c.room_left.ensures _ q) c.write_all.ensures.ok

pub returns-then-piece-room_left-clause-left : goal.returns-then-piece-room_left-clause-left
returns-then-piece-room_left-clause-left g c =
    on_err_weaker c.write_all.result (λ q. prefix_past _ _ _ _ c.args.piece.now c.room_left.result c.in_ok-make_room.ensures.ok c.in_ok-make_room.ensures.room c.if-piece-room_left.true c.room_left.ensures _ q) c.write_all.ensures.left

use Rattle.std.proofs.Common.{◌≡◌, [], ◌∷◌, Some, None, Err, sym, ap, ◌∙◌}
use Rattle.std.specs.Prelude.{option_map}
use Rattle.std.proofs.lemmas.Result.{err_from_is_err_and, on_ok_weaker}
use Rattle.index_model.specs.Queries.{query_of}
use Rattle.index_model.specs.Seen.{query_seen}
use Rattle.query_text.specs.Sessions.{Stops}
use Rattle.query_text.proofs.AnswerLaws.{answers_bad, answers_look, ends_bad, if_err, stops_look}
use Rattle.query_text.proofs.answer.answer.Goals as goal

pub returns-in_default-clause-ok : goal.returns-in_default-clause-ok
returns-in_default-clause-ok g c =
    let bad : query_of c.args.line.now ≡ None = sym c.parse.ensures ∙ ap (option_map query_seen) c.in_default.is in
    on_ok_weaker c.write_bad_query.result (λ p. answers_bad c.args.spelling c.args.reader.now _ _ c.args.line.now bad p) c.write_bad_query.ensures.ok

pub returns-in_default-clause-err : goal.returns-in_default-clause-err
returns-in_default-clause-err g c =
    let bad : query_of c.args.line.now ≡ None = sym c.parse.ensures ∙ ap (option_map query_seen) c.in_default.is in
    ends_bad c.args.spelling c.args.reader.now (g.K.Sink.written c.args.out.now) (g.K.Sink.written c.write_bad_query.new.out) c.args.line.now bad _ _ c.write_bad_query.result c.write_bad_query.ensures.err c.write_bad_query.ensures.failed c.write_bad_query.ensures.left

pub returns-in_err-stage-clause-err : goal.returns-in_err-stage-clause-err
returns-in_err-stage-clause-err g c =
    let asks : query_of c.args.line.now ≡ Some (query_seen c.in-Some.query) = sym c.parse.ensures ∙ ap (option_map query_seen) c.in-Some.is in
    let p = err_from_is_err_and c.from_residual.result c.from_residual.ensures.1 in
    if_err c.from_residual.result
    (λ fault. Stops c.args.spelling c.args.reader.now c.look_up.new.reader (g.K.Sink.written c.args.out.now) (g.K.Sink.written c.look_up.new.out) (g.K.Sink.write_faults c.args.out.now) (g.K.Sink.write_faults c.look_up.new.out) (c.args.line.now ∷ []) fault)
    c.in_err-stage.field-0.0 (p.1 ∙ ap Err p.2)
    (stops_look c.args.spelling _ _ _ _ c.args.line.now (query_seen c.in-Some.query) asks _ _ c.in_err-stage.field-0.0 c.in_err-stage.ensures.err)

pub returns-clause-ok : goal.returns-clause-ok
returns-clause-ok g c =
    let asks : query_of c.args.line.now ≡ Some (query_seen c.in-Some.query) = sym c.parse.ensures ∙ ap (option_map query_seen) c.in-Some.is in
    answers_look c.args.spelling c.args.reader.now c.look_up.new.reader (g.K.Sink.written c.args.out.now) (g.K.Sink.written c.look_up.new.out) c.args.line.now (query_seen c.in-Some.query) asks c.in_ok-stage.stage c.in_ok-stage.ensures.ok.0 c.in_ok-stage.ensures.ok.1

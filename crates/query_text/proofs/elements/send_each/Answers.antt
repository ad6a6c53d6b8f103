use Rattle.std.proofs.Common.{ℕ, ◌+◌, List, ◌++◌, take, drop, sym, subst, arith}
use Rattle.outside.specs.Written.{AppendsPrefix}
use Rattle.index_model.specs.LookTexts.{text_of_element}
use Rattle.name_quotes.specs.Quotes.{spelled}
use Rattle.query_text.specs.Sending.{Sends}
use Rattle.query_text.proofs.ElementLaws.{texts, texts_more, texts_whole}
use Rattle.query_text.proofs.SendingLaws.{on_err, sends_more, sends_prefix, prefix_of_text}
use Rattle.query_text.proofs.elements.send_each.Goals as goal

pub loop-i-preserved : goal.loop-i-preserved
loop-i-preserved g c =
    let es = c.args.elements.now in
    let name = spelled c.args.spelling c.args.name.now in
    let i = c.loop-i.i in
    let more = texts_more name es i c.get.result (omega (arith, c.loop-i-test.true, c.len-i-end.ensures)) (sym c.get.ensures) in
    record {
      sent = subst (λ (l : List ℕ). Sends (g.K.Sink.written c.args.out.now) c.args.waiting.now (g.K.Sink.written c.send_element.new.out) c.send_element.new.waiting l) (sym more) (sends_more _ _ _ _ _ _ (texts name es (take i es)) (text_of_element name c.get.result) c.loop-i.invariant.sent c.in_ok-send_element.ensures.ok);
      counts = omega (arith, c.loop-i.invariant.counts, c.in_ok-send_element.ensures.counts);
    }

pub returns-in_err-send_element-clause-left : goal.returns-in_err-send_element-clause-left
returns-in_err-send_element-clause-left g c =
    let es = c.args.elements.now in
    let name = spelled c.args.spelling c.args.name.now in
    let i = c.loop-i.i in
    let whole = texts_whole name es i c.get.result (omega (arith, c.loop-i-test.true, c.len-i-end.ensures)) (sym c.get.ensures) in
    let sent = sends_prefix _ _ _ _ _ (texts name es (take i es)) (text_of_element name c.get.result) c.loop-i.invariant.sent c.in_err-send_element.ensures.left in
    on_err c.from_residual.result (subst (λ (l : List ℕ). AppendsPrefix (g.K.Sink.written c.args.out.now) (g.K.Sink.written c.send_element.new.out) (c.args.waiting.now ++ l)) (sym whole) (prefix_of_text _ _ c.args.waiting.now (texts name es (take i es) ++ text_of_element name c.get.result) (texts name es (drop (i + 1) es)) sent))

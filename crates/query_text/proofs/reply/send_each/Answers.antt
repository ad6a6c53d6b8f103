use Rattle.std.proofs.Common.{ℕ, ◌+◌, List, ◌++◌, take, drop, sym, subst, arith}
use Rattle.outside.specs.Written.{AppendsPrefix}
use Rattle.index_model.specs.Texts.{text_of_entry}
use Rattle.query_text.specs.Sending.{Sends}
use Rattle.query_text.proofs.EntryLaws.{texts-more, texts-whole}
use Rattle.query_text.specs.Spelled.{entry_in, texts_at}
use Rattle.query_text.proofs.SendingLaws.{on_err, sends_more, sends_prefix, prefix_of_text}
use Rattle.query_text.proofs.reply.send_each.Goals as goal

pub loop-place-preserved : goal.loop-place-preserved
loop-place-preserved g c =
    let es = c.args.entries.now in
    let ks = c.args.places.now in
    let i = c.loop-place.place-index in
    let e = c.index-entries-place.result in
    let more = texts-more c.args.spelling es ks i e c.loop-place-test.true (c.requires i 0 c.loop-place-test.true) c.index-entries-place.is in
    record {
      sent = subst (λ (l : List ℕ). Sends (g.K.Sink.written c.args.out.now) c.args.waiting.now (g.K.Sink.written c.send_entry.new.out) c.send_entry.new.waiting l) (sym more) (sends_more _ _ _ _ _ _ (texts_at c.args.spelling es (take i ks)) (text_of_entry (entry_in c.args.spelling e)) c.loop-place.invariant.sent c.in_ok-send_entry.ensures.ok);
      counts = omega (arith, c.loop-place.invariant.counts, c.in_ok-send_entry.ensures.counts);
    }

pub returns-in_err-send_entry-clause-left : goal.returns-in_err-send_entry-clause-left
returns-in_err-send_entry-clause-left g c =
    let es = c.args.entries.now in
    let ks = c.args.places.now in
    let i = c.loop-place.place-index in
    let e = c.index-entries-place.result in
    let whole = texts-whole c.args.spelling es ks i e c.loop-place-test.true (c.requires i 0 c.loop-place-test.true) c.index-entries-place.is in
    let sent = sends_prefix _ _ _ _ _ (texts_at c.args.spelling es (take i ks)) (text_of_entry (entry_in c.args.spelling e)) c.loop-place.invariant.sent c.in_err-send_entry.ensures.left in
    on_err c.from_residual.result (subst (λ (l : List ℕ). AppendsPrefix (g.K.Sink.written c.args.out.now) (g.K.Sink.written c.send_entry.new.out) (c.args.waiting.now ++ l)) (sym whole) (prefix_of_text _ _ c.args.waiting.now (texts_at c.args.spelling es (take i ks) ++ text_of_entry (entry_in c.args.spelling e)) (texts_at c.args.spelling es (drop (i + 1) ks)) sent))

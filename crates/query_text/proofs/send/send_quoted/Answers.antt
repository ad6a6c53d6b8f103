use Rattle.std.proofs.Common.{ℕ, ◌+◌, List, ◌++◌, get_or, take, drop, sym, subst, arith}
use Rattle.outside.specs.Written.{AppendsPrefix}
use Rattle.name_quotes.specs.Quotes.{quoted_byte}
use Rattle.query_text.specs.Sending.{Sends}
use Rattle.query_text.proofs.QuotedBytes.{bytes_more, bytes_of, bytes_whole}
use Rattle.query_text.proofs.SendingLaws.{on_err, sends_more, sends_prefix, prefix_of_text}
use Rattle.query_text.proofs.send.send_quoted.Goals as goal

pub loop-byte-preserved : goal.loop-byte-preserved
loop-byte-preserved g c =
    let name = c.args.name.now in
    let i = c.loop-byte.byte-index in
    record {
      sent = subst (λ (l : List ℕ). Sends (g.K.Sink.written c.args.out.now) c.args.waiting.now (g.K.Sink.written c.send_byte.new.out) c.send_byte.new.waiting l) (sym (bytes_more name i c.loop-byte-test.true)) (sends_more _ _ _ _ _ _ (bytes_of (take i name)) (quoted_byte (get_or name i 0)) c.loop-byte.invariant.sent c.in_ok-send_byte.ensures.ok);
      counts = omega (arith, c.loop-byte.invariant.counts, c.in_ok-send_byte.ensures.counts);
    }

pub returns-in_err-send_byte-clause-left : goal.returns-in_err-send_byte-clause-left
returns-in_err-send_byte-clause-left g c =
    let name = c.args.name.now in
    let i = c.loop-byte.byte-index in
    let sent = sends_prefix _ _ _ _ _ (bytes_of (take i name)) (quoted_byte (get_or name i 0)) c.loop-byte.invariant.sent c.in_err-send_byte.ensures.left in
    on_err c.from_residual.result (subst (λ (l : List ℕ). AppendsPrefix (g.K.Sink.written c.args.out.now) (g.K.Sink.written c.send_byte.new.out) (c.args.waiting.now ++ l)) (sym (bytes_whole name i c.loop-byte-test.true)) (prefix_of_text _ _ c.args.waiting.now (bytes_of (take i name) ++ quoted_byte (get_or name i 0)) (bytes_of (drop (i + 1) name)) sent))

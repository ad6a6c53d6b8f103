use Rattle.std.proofs.Common.{◌≡◌, ℕ, ◌+◌, ◌-◌, ◌<◌, ◌≤◌, ◌++◌, List, [], length, Err, sym, ap, ◌∙◌, subst, arith}
use Rattle.std.proofs.lemmas.Bool.Decides.{nat_tests}
use Rattle.std.proofs.lemmas.Result.{IfErr-weaker, err_from_is_err_and, on_ok_weaker}
use Rattle.outside.specs.Taken.{IsAtEnd, Takes}
use Rattle.outside.proofs.CountLaws.{then-rose}
use Rattle.index_model.specs.Transcripts.{lines_of}
use Rattle.query_text.specs.declared.fault.SessionFault.{SessionFault}
use Rattle.query_text.specs.Buffers.{longest_line}
use Rattle.query_text.specs.Sessions.{Answers, SessionStops, Stops}
use Rattle.query_text.specs.WholeLines.{whole_lines_of}
use Rattle.query_text.proofs.AnswerLaws.{if_err}
use Rattle.query_text.proofs.SessionLaws.{Reading, all_answered, last_stops, none_of, piece_stops, read_stops, reading_first, reading_more, session_stops, too_long, too_much}
use Rattle.query_text.proofs.sessions.session.Goals as goal

pub loop-left-init : goal.loop-left-init
loop-left-init g c =
    let part : c.clear.new.self.part ≡ [] = ap (λ b. b.part) c.clear.ensures in
    record {
      reading = reading_first c.args.spelling (g.S.Source.left c.args.input.now) c.args.reader.now (g.K.Sink.written c.args.out.now) c.clear.new.self.part part;
      searched = ap (λ b. b.fresh) c.clear.ensures;
      short = subst (λ (l : List ℕ). length l ≤ longest_line) (sym part) (omega arith);
      reads = omega arith;
      writes = omega arith;
    }

pub returns-in-Ok-eq0-clause-ok : goal.returns-in-Ok-eq0-clause-ok
returns-in-Ok-eq0-clause-ok g c =
    let zero : c.in-Ok-eq0.field-0 ≡ 0 = grind (arith, nat_tests, c.in-Ok-eq0.field-0-test) in
    let none : c.fill.new.self.fresh ≡ [] = none_of c.fill.new.self.fresh c.in-Ok-eq0.field-0 c.in-Ok-eq0.ensures.fresh zero in
    let took : Takes (g.S.Source.left c.loop-left.input) (g.S.Source.left c.fill.new.input) [] = subst (λ (l : List ℕ). Takes (g.S.Source.left c.loop-left.input) (g.S.Source.left c.fill.new.input) l) none c.in-Ok-eq0.ensures.taken in
    let ends : IsAtEnd (g.S.Source.left c.fill.new.input) = c.in-Ok-eq0.ensures.end zero in
    let part : c.part.result.now ≡ c.loop-left.line.part = c.part.ensures ∙ c.fill.ensures.part in
    let more : 0 < c.loop-left.left = grind (arith, nat_tests, c.loop-left-test.true) in
    on_ok_weaker c.answer_last.result (λ h. all_answered c.args.spelling (g.S.Source.left c.args.input.now) (g.S.Source.left c.loop-left.input) c.args.reader.now c.loop-left.reader (g.K.Sink.written c.args.out.now) (g.K.Sink.written c.loop-left.out) c.loop-left.line.part c.loop-left.left c.loop-left.invariant.reading (g.S.Source.left c.fill.new.input) took ends c.answer_last.new.reader (g.K.Sink.written c.answer_last.new.out) more c.loop-left.invariant.short
    (subst (λ (l : List ℕ). Answers c.args.spelling c.loop-left.reader c.answer_last.new.reader (g.K.Sink.written c.loop-left.out) (g.K.Sink.written c.answer_last.new.out) (lines_of l)) part h)) c.answer_last.ensures.ok

pub returns-in-Ok-eq0-clause-err : goal.returns-in-Ok-eq0-clause-err
returns-in-Ok-eq0-clause-err g c =
    let zero : c.in-Ok-eq0.field-0 ≡ 0 = grind (arith, nat_tests, c.in-Ok-eq0.field-0-test) in
    let none : c.fill.new.self.fresh ≡ [] = none_of c.fill.new.self.fresh c.in-Ok-eq0.field-0 c.in-Ok-eq0.ensures.fresh zero in
    let took : Takes (g.S.Source.left c.loop-left.input) (g.S.Source.left c.fill.new.input) [] = subst (λ (l : List ℕ). Takes (g.S.Source.left c.loop-left.input) (g.S.Source.left c.fill.new.input) l) none c.in-Ok-eq0.ensures.taken in
    let ends : IsAtEnd (g.S.Source.left c.fill.new.input) = c.in-Ok-eq0.ensures.end zero in
    let part : c.part.result.now ≡ c.loop-left.line.part = c.part.ensures ∙ c.fill.ensures.part in
    IfErr-weaker c.answer_last.result
    (λ (fault : SessionFault). Stops c.args.spelling c.loop-left.reader c.answer_last.new.reader (g.K.Sink.written c.loop-left.out) (g.K.Sink.written c.answer_last.new.out) (g.K.Sink.write_faults c.loop-left.out) (g.K.Sink.write_faults c.answer_last.new.out) (lines_of c.part.result.now) fault)
    (λ (fault : SessionFault). SessionStops c.args.spelling (g.S.Source.left c.args.input.now) (g.S.Source.left c.fill.new.input) (g.S.Source.read_faults c.args.input.now) (g.S.Source.read_faults c.fill.new.input) c.args.reader.now c.answer_last.new.reader (g.K.Sink.written c.args.out.now) (g.K.Sink.written c.answer_last.new.out) (g.K.Sink.write_faults c.args.out.now) (g.K.Sink.write_faults c.answer_last.new.out) fault)
    (λ fault h. session_stops c.args.spelling (g.S.Source.left c.args.input.now) (g.S.Source.left c.fill.new.input) (g.S.Source.read_faults c.args.input.now) (g.S.Source.read_faults c.fill.new.input) c.args.reader.now c.answer_last.new.reader (g.K.Sink.written c.args.out.now) (g.K.Sink.written c.answer_last.new.out) (g.K.Sink.write_faults c.args.out.now) (g.K.Sink.write_faults c.answer_last.new.out) fault
    (last_stops c.args.spelling (g.S.Source.left c.args.input.now) (g.S.Source.left c.loop-left.input) c.args.reader.now c.loop-left.reader (g.K.Sink.written c.args.out.now) (g.K.Sink.written c.loop-left.out) c.loop-left.line.part c.loop-left.left c.loop-left.invariant.reading (g.S.Source.left c.fill.new.input) took ends c.answer_last.new.reader (g.K.Sink.written c.answer_last.new.out) (g.K.Sink.write_faults c.args.out.now) (g.K.Sink.write_faults c.loop-left.out) (g.K.Sink.write_faults c.answer_last.new.out) fault c.loop-left.invariant.writes c.loop-left.invariant.short
    (subst (λ (l : List ℕ). Stops c.args.spelling c.loop-left.reader c.answer_last.new.reader (g.K.Sink.written c.loop-left.out) (g.K.Sink.written c.answer_last.new.out) (g.K.Sink.write_faults c.loop-left.out) (g.K.Sink.write_faults c.answer_last.new.out) (lines_of l) fault) part h))) c.answer_last.ensures.err

pub returns-in-Err-clause-err : goal.returns-in-Err-clause-err
returns-in-Err-clause-err g c = (
  then-rose (g.S.Source.read_faults c.args.input.now) (g.S.Source.read_faults c.loop-left.input) (g.S.Source.read_faults c.fill.new.input) c.loop-left.invariant.reads c.in-Err.ensures.failed,
  read_stops c.args.spelling (g.S.Source.left c.args.input.now) (g.S.Source.left c.loop-left.input) c.args.reader.now c.loop-left.reader (g.K.Sink.written c.args.out.now) (g.K.Sink.written c.loop-left.out) c.loop-left.line.part c.loop-left.left c.loop-left.invariant.reading (g.S.Source.left c.fill.new.input) c.in-Err.ensures.unchanged,
)

pub returns-in_err-answer_whole-clause-err : goal.returns-in_err-answer_whole-clause-err
returns-in_err-answer_whole-clause-err g c =
    let fault = c.in_err-answer_whole.field-0.0 in
    let fits : length c.fill.new.self.fresh ≤ c.loop-left.left = omega (arith, c.in-Ok.ensures.fresh, c.in-Ok.ensures.most) in
    let held : length c.loop-left.line.part + length c.fill.new.self.fresh ≤ longest_line + 1 = subst (λ (l : List ℕ). length l + length c.fill.new.self.fresh ≤ longest_line + 1) c.fill.ensures.part c.fill.ensures.fits in
    let p = err_from_is_err_and c.from_residual.result c.from_residual.ensures.1 in
    if_err c.from_residual.result
    (λ (fault : SessionFault). SessionStops c.args.spelling (g.S.Source.left c.args.input.now) (g.S.Source.left c.fill.new.input) (g.S.Source.read_faults c.args.input.now) (g.S.Source.read_faults c.fill.new.input) c.args.reader.now c.answer_whole.new.reader (g.K.Sink.written c.args.out.now) (g.K.Sink.written c.answer_whole.new.out) (g.K.Sink.write_faults c.args.out.now) (g.K.Sink.write_faults c.answer_whole.new.out) fault)
    c.in_err-answer_whole.field-0.0 (p.1 ∙ ap Err p.2)
    (session_stops c.args.spelling (g.S.Source.left c.args.input.now) (g.S.Source.left c.fill.new.input) (g.S.Source.read_faults c.args.input.now) (g.S.Source.read_faults c.fill.new.input) c.args.reader.now c.answer_whole.new.reader (g.K.Sink.written c.args.out.now) (g.K.Sink.written c.answer_whole.new.out) (g.K.Sink.write_faults c.args.out.now) (g.K.Sink.write_faults c.answer_whole.new.out) fault
    (piece_stops c.args.spelling (g.S.Source.left c.args.input.now) (g.S.Source.left c.loop-left.input) c.args.reader.now c.loop-left.reader (g.K.Sink.written c.args.out.now) (g.K.Sink.written c.loop-left.out) c.loop-left.line.part c.loop-left.left c.loop-left.invariant.reading (g.S.Source.left c.fill.new.input) c.fill.new.self.fresh c.in-Ok.ensures.taken c.answer_whole.new.reader (g.K.Sink.written c.answer_whole.new.out) (g.K.Sink.write_faults c.args.out.now) (g.K.Sink.write_faults c.loop-left.out) (g.K.Sink.write_faults c.answer_whole.new.out) fault c.loop-left.invariant.writes fits held
    (subst (λ (l : List ℕ). Stops c.args.spelling c.loop-left.reader c.answer_whole.new.reader (g.K.Sink.written c.loop-left.out) (g.K.Sink.written c.answer_whole.new.out) (g.K.Sink.write_faults c.loop-left.out) (g.K.Sink.write_faults c.answer_whole.new.out) (whole_lines_of (l ++ c.fill.new.self.fresh)) fault) c.fill.ensures.part c.in_err-answer_whole.ensures.err)))

pub returns-then-part-gt-LONGEST-clause-err : goal.returns-then-part-gt-LONGEST-clause-err
returns-then-part-gt-LONGEST-clause-err g c =
    let h = c.in_ok-answer_whole.ensures.ok in
    let rest = c.answer_whole.new.line.part in
    let less = c.loop-left.left - c.in-Ok.count in
    let whole : c.loop-left.line.part ++ c.fill.new.self.fresh ≡ h.0 ++ rest = subst (λ (l : List ℕ). l ++ c.fill.new.self.fresh ≡ h.0 ++ rest) c.fill.ensures.part h.2 in
    let fits : length c.fill.new.self.fresh + less ≡ c.loop-left.left = omega (arith, c.in-Ok.ensures.fresh, c.in-Ok.ensures.most) in
    let held : length c.loop-left.line.part + length c.fill.new.self.fresh ≤ longest_line + 1 = subst (λ (l : List ℕ). length l + length c.fill.new.self.fresh ≤ longest_line + 1) c.fill.ensures.part c.fill.ensures.fits in
    let next : Reading c.args.spelling (g.S.Source.left c.args.input.now) (g.S.Source.left c.fill.new.input) c.args.reader.now c.answer_whole.new.reader (g.K.Sink.written c.args.out.now) (g.K.Sink.written c.answer_whole.new.out) rest less =
    reading_more c.args.spelling (g.S.Source.left c.args.input.now) (g.S.Source.left c.loop-left.input) c.args.reader.now c.loop-left.reader (g.K.Sink.written c.args.out.now) (g.K.Sink.written c.loop-left.out) c.loop-left.line.part c.loop-left.left c.loop-left.invariant.reading (g.S.Source.left c.fill.new.input) c.fill.new.self.fresh c.in-Ok.ensures.taken c.answer_whole.new.reader (g.K.Sink.written c.answer_whole.new.out) h.0 rest h.1 less whole h.3 h.4 c.in_ok-answer_whole.ensures.one_line fits held in
    let same : length c.part-in-loop-left.result.now ≡ length rest = ap length c.part-in-loop-left.ensures in
    let long : longest_line < length rest = grind (arith, nat_tests, same, c.if-part-gt-LONGEST.true) in
    too_long c.args.spelling (g.S.Source.left c.args.input.now) (g.S.Source.left c.fill.new.input) c.args.reader.now c.answer_whole.new.reader (g.K.Sink.written c.args.out.now) (g.K.Sink.written c.answer_whole.new.out) rest less next long

pub loop-left-preserved : goal.loop-left-preserved
loop-left-preserved g c =
    let h = c.in_ok-answer_whole.ensures.ok in
    let rest = c.answer_whole.new.line.part in
    let less = c.loop-left.left - c.in-Ok.count in
    let whole : c.loop-left.line.part ++ c.fill.new.self.fresh ≡ h.0 ++ rest = subst (λ (l : List ℕ). l ++ c.fill.new.self.fresh ≡ h.0 ++ rest) c.fill.ensures.part h.2 in
    let fits : length c.fill.new.self.fresh + less ≡ c.loop-left.left = omega (arith, c.in-Ok.ensures.fresh, c.in-Ok.ensures.most) in
    let held : length c.loop-left.line.part + length c.fill.new.self.fresh ≤ longest_line + 1 = subst (λ (l : List ℕ). length l + length c.fill.new.self.fresh ≤ longest_line + 1) c.fill.ensures.part c.fill.ensures.fits in
    let next : Reading c.args.spelling (g.S.Source.left c.args.input.now) (g.S.Source.left c.fill.new.input) c.args.reader.now c.answer_whole.new.reader (g.K.Sink.written c.args.out.now) (g.K.Sink.written c.answer_whole.new.out) rest less =
    reading_more c.args.spelling (g.S.Source.left c.args.input.now) (g.S.Source.left c.loop-left.input) c.args.reader.now c.loop-left.reader (g.K.Sink.written c.args.out.now) (g.K.Sink.written c.loop-left.out) c.loop-left.line.part c.loop-left.left c.loop-left.invariant.reading (g.S.Source.left c.fill.new.input) c.fill.new.self.fresh c.in-Ok.ensures.taken c.answer_whole.new.reader (g.K.Sink.written c.answer_whole.new.out) h.0 rest h.1 less whole h.3 h.4 c.in_ok-answer_whole.ensures.one_line fits held in
    let same : length c.part-in-loop-left.result.now ≡ length rest = ap length c.part-in-loop-left.ensures in
    record {
      reading = next;
      searched = c.in_ok-answer_whole.ensures.searched;
      short = grind (arith, nat_tests, same, c.if-part-gt-LONGEST.false);
      reads = omega (arith, c.loop-left.invariant.reads, c.fill.ensures.counts);
      writes = omega (arith, c.loop-left.invariant.writes, c.answer_whole.ensures.counts);
    }

pub returns-clause-err : goal.returns-clause-err
returns-clause-err g c =
    let none : c.loop-left.left ≡ 0 = grind (arith, nat_tests, c.loop-left-test.false) in
    too_much c.args.spelling (g.S.Source.left c.args.input.now) (g.S.Source.left c.loop-left.input) c.args.reader.now c.loop-left.reader (g.K.Sink.written c.args.out.now) (g.K.Sink.written c.loop-left.out) c.loop-left.line.part c.loop-left.left c.loop-left.invariant.reading none

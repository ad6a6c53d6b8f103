use Rattle.std.proofs.Common.{◌≡◌, ℕ, ◌+◌, ◌++◌, List, take, drop, Option, Some, Err, sym, ap, ◌∙◌, subst, arith}
use Rattle.std.proofs.lemmas.Result.{err_from_is_err_and}
use Rattle.index_model.specs.Texts.{newline}
use Rattle.query_text.specs.Sessions.{Stops}
use Rattle.query_text.specs.WholeLines.{HasNoNewline, IsFirstNewline, whole_lines_of}
use Rattle.query_text.proofs.AnswerLaws.{if_err}
use Rattle.query_text.proofs.NewlineLaws.{no_newline_more}
use Rattle.query_text.proofs.SessionLaws.{AtLine, at_first, at_next, at_stop, line_ends}
use Rattle.query_text.proofs.sessions.answer_whole.Goals as goal

pub loop-end-init : goal.loop-end-init
loop-end-init g c = record {
  at = at_first c.args.spelling c.args.reader.now (g.K.Sink.written c.args.out.now) (c.args.line.now.part ++ c.args.line.now.fresh);
  one_line = c.requires;
  counts = omega arith;
}

pub returns-in_err-answer-clause-err : goal.returns-in_err-answer-clause-err
returns-in_err-answer-clause-err g c =
    let part = c.loop-end.line.part in
    let fresh = c.loop-end.line.fresh in
    let end = c.in-Some.end in
    let line = c.line_up_to.result.now in
    let found : IsFirstNewline fresh (Some end) = subst (λ (r : Option ℕ). IsFirstNewline fresh r) c.in-Some.is c.newline.ensures in
    let is : part ++ fresh ≡ line ++ (newline ++ drop (end + 1) fresh) = line_ends part fresh line end c.line_up_to.ensures found.1 in
    let one : HasNoNewline line = subst (λ (l : List ℕ). HasNoNewline l) (sym c.line_up_to.ensures) (no_newline_more part (take end fresh) c.loop-end.invariant.one_line found.0) in
    let bytes = c.args.line.now.part ++ c.args.line.now.fresh in
    let p = err_from_is_err_and c.from_residual.result c.from_residual.ensures.1 in
    if_err c.from_residual.result
    (λ fault. Stops c.args.spelling c.args.reader.now c.answer.new.reader (g.K.Sink.written c.args.out.now) (g.K.Sink.written c.answer.new.out) (g.K.Sink.write_faults c.args.out.now) (g.K.Sink.write_faults c.answer.new.out) (whole_lines_of bytes) fault)
    c.in_err-answer.field-0.0 (p.1 ∙ ap Err p.2)
    (at_stop c.args.spelling c.args.reader.now c.loop-end.reader c.answer.new.reader (g.K.Sink.written c.args.out.now) (g.K.Sink.written c.loop-end.out) (g.K.Sink.written c.answer.new.out) bytes (part ++ fresh) c.loop-end.invariant.at _ _ _ c.in_err-answer.field-0.0 line (drop (end + 1) fresh) is one c.loop-end.invariant.counts c.in_err-answer.ensures.err)

pub loop-end-preserved : goal.loop-end-preserved
loop-end-preserved g c =
    let part = c.loop-end.line.part in
    let fresh = c.loop-end.line.fresh in
    let end = c.in-Some.end in
    let line = c.line_up_to.result.now in
    let rest = drop (end + 1) fresh in
    let found : IsFirstNewline fresh (Some end) = subst (λ (r : Option ℕ). IsFirstNewline fresh r) c.in-Some.is c.newline.ensures in
    let is : part ++ fresh ≡ line ++ (newline ++ rest) = line_ends part fresh line end c.line_up_to.ensures found.1 in
    let one : HasNoNewline line = subst (λ (l : List ℕ). HasNoNewline l) (sym c.line_up_to.ensures) (no_newline_more part (take end fresh) c.loop-end.invariant.one_line found.0) in
    let bytes = c.args.line.now.part ++ c.args.line.now.fresh in
    let left : rest ≡ c.pass_line.new.self.part ++ c.pass_line.new.self.fresh = sym (ap (λ (l : List ℕ). l ++ c.pass_line.new.self.fresh) c.pass_line.ensures.part ∙ c.pass_line.ensures.fresh) in
    let next = at_next c.args.spelling c.args.reader.now c.loop-end.reader c.answer.new.reader (g.K.Sink.written c.args.out.now) (g.K.Sink.written c.loop-end.out) (g.K.Sink.written c.answer.new.out) bytes (part ++ fresh) c.loop-end.invariant.at line rest is one c.in_ok-answer.ensures.ok in
    record {
      at = subst (λ (l : List ℕ). AtLine c.args.spelling c.args.reader.now (g.K.Sink.written c.args.out.now) bytes c.answer.new.reader (g.K.Sink.written c.answer.new.out) l) left next;
      one_line = subst (λ (l : List ℕ). HasNoNewline l) (sym c.pass_line.ensures.part) tt;
      counts = omega (arith, c.loop-end.invariant.counts, c.answer.ensures.counts);
    }

use Rattle.std.proofs.Common.{◌≡◌, ℕ, List, [], ◌∷◌, length, subst, arith}
use Rattle.std.specs.Prelude.{◌≢◌, IfErr}
use Rattle.std.proofs.lemmas.Bool.Decides.{nat_tests}
use Rattle.std.proofs.lemmas.Result.{on_ok_weaker}
use Rattle.index_model.specs.Transcripts.{lines_of}
use Rattle.query_text.specs.Sessions.{Answers, Stops}
use Rattle.query_text.proofs.SessionLaws.{last_is, no_last}
use Rattle.query_text.proofs.sessions.answer_last.Goals as goal

pub returns-then-is_empty-clause-ok : goal.returns-then-is_empty-clause-ok
returns-then-is_empty-clause-ok g c =
    let none : length c.args.part.now ≡ 0 = grind (arith, nat_tests, c.is_empty.ensures, c.if-is_empty.true) in
    no_last c.args.spelling c.args.reader.now (g.K.Sink.written c.args.out.now) c.args.part.now none

pub returns-clause-ok : goal.returns-clause-ok
returns-clause-ok g c =
    let some : length c.args.part.now ≢ 0 = grind (arith, nat_tests, c.is_empty.ensures, c.if-is_empty.false) in
    let is : c.args.part.now ∷ [] ≡ lines_of c.args.part.now = last_is c.args.part.now c.requires some in
    on_ok_weaker c.answer.result (λ p. subst (λ (ls : List (List ℕ)). Answers c.args.spelling c.args.reader.now c.answer.new.reader (g.K.Sink.written c.args.out.now) (g.K.Sink.written c.answer.new.out) ls) is p) c.answer.ensures.ok

pub returns-clause-err : goal.returns-clause-err
returns-clause-err g c =
    let some : length c.args.part.now ≢ 0 = grind (arith, nat_tests, c.is_empty.ensures, c.if-is_empty.false) in
    let is : c.args.part.now ∷ [] ≡ lines_of c.args.part.now = last_is c.args.part.now c.requires some in
    subst (λ (ls : List (List ℕ)). IfErr c.answer.result (λ fault. Stops c.args.spelling c.args.reader.now c.answer.new.reader (g.K.Sink.written c.args.out.now) (g.K.Sink.written c.answer.new.out) (g.K.Sink.write_faults c.args.out.now) (g.K.Sink.write_faults c.answer.new.out) ls fault)) is c.answer.ensures.err

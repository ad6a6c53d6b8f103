use Rattle.std.proofs.Common.{◌≡◌, ◌∙◌, true, sym, subst, IsSome}
use Rattle.index_model.specs.Parts.{reply_by}
use Rattle.index_model.specs.Seen.{query_seen}
use Rattle.index_board.specs.Kept.{AreOf, answers}
use Rattle.index_board.specs.Readers.{Reader}
use Rattle.index_board.proofs.KeptLaws.{kept_reply, published_reply, on_ok}
use Rattle.index_board.proofs.reader.Reader.advance.Goals as goal

pub returns-then-answers-clause-ready : goal.returns-then-answers-clause-ready
returns-then-answers-clause-ready g c =
    let q = query_seen c.args.query.now in
    let r : Reader = c.args.self.now in
    let are : AreOf r.board.subject r.kept = subst (λ (r : Reader). AreOf r.board.subject r.kept) c.self.view_is c.self.invariant.kept in
    let has : answers r.kept q ≡ true = subst (λ (r : Reader). answers r.kept q ≡ true) c.self.view_is (sym c.answers.ensures ∙ c.if-answers.true) in
    subst (λ (n : Reader). IsSome (reply_by n.kept q c.mark.result)) (sym c.mark.ensures.reader) (kept_reply r.board.subject r.kept q c.mark.result are c.mark.ensures.mark.fits has)

pub returns-clause-ready : goal.returns-clause-ready
returns-clause-ready g c = on_ok c.mark_in_turn.result.1 (published_reply c.mark_in_turn.new.self.kept (query_seen c.args.query.now) c.mark_in_turn.result.0) c.mark_in_turn.ensures.published

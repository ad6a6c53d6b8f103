use Rattle.std.proofs.Common.{◌≡◌, Option, Some, IsSome, refl, subst}
use Rattle.index_model.specs.Answers.{Reply}
use Rattle.index_model.specs.Parts.{reply_by}
use Rattle.index_model.specs.Seen.{query_seen, reply_seen}
use Rattle.index_board.specs.Kept.{AreOf}
use Rattle.index_board.specs.Readers.{Reader}
use Rattle.index_board.proofs.KeptLaws.{kept_replies}
use Rattle.index_board.proofs.reader.Reader.answer.Goals as goal

pub returns-in-Some : goal.returns-in-Some
returns-in-Some c =
    let q = query_seen c.args.query.now in
    let r = reply_seen c.in-Some.reply in
    let are : AreOf c.args.self.now.board.subject c.args.self.now.kept = subst (λ (r : Reader). AreOf r.board.subject r.kept) c.self.view_is c.self.invariant.kept in
    let is : Some r ≡ reply_by c.args.self.now.kept q c.args.stage = subst (λ (reader : Reader). Some r ≡ reply_by reader.kept q c.args.stage) c.self.view_is c.in-Some.ensures in
    ((refl, kept_replies c.args.self.now.board.subject c.args.self.now.kept q c.args.stage are c.requires.fits r is), subst (λ (o : Option Reply). IsSome o) is refl)

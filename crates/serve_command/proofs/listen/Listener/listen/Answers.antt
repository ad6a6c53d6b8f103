use Rattle.std.proofs.Common.{◌∙◌, ap}
use Rattle.index_model.proofs.StageLaws.{closure}
use Rattle.session_base.specs.Floors.{IsOver}
use Rattle.session_base.proofs.SessionBoards.{board_stays}
use Rattle.serve_command.proofs.ListenLaws.{heard_lines, causes_of}
use Rattle.serve_command.proofs.listen.Listener.listen.Goals as goal

pub returns-clause-text : goal.returns-clause-text
returns-clause-text g c =
    let started = c.args.self.now.reader in
    let waited = c.wait_for.new.reader in
    let over : IsOver started.board.subject.file waited.board.subject = record { file_is = ap (λ b. b.subject.file) c.wait_for.ensures.board; cache_is = ap (λ b. b.subject.cache) c.wait_for.ensures.board ∙ c.requires.kind } in
    heard_lines c.args.spelling started.board.subject.file c.args.wait _ _ _ _ waited c.session.new.reader _ _ _ _ over
    (closure.onwards 0 started.pass.floor waited.pass.floor c.requires.reached c.wait_for.ensures.reach)
    c.wait_for.ensures.least c.session.result c.session.ensures.ok c.session.ensures.err

pub returns-clause-causes : goal.returns-clause-causes
returns-clause-causes g c = causes_of c.args.spelling _ _ _ _ c.wait_for.new.reader c.session.new.reader _ _ _ _ c.session.result c.session.ensures.err

pub returns-clause-board : goal.returns-clause-board
returns-clause-board g c = board_stays c.args.spelling _ _ _ _ c.wait_for.new.reader c.session.new.reader _ _ _ _ c.session.result c.session.ensures.ok c.session.ensures.err ∙ c.wait_for.ensures.board

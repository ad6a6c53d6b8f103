use Rattle.std.proofs.Common.{ℕ, ◌≤◌, List, length, sym, subst, ◌∙◌}
use Rattle.race_command.specs.Runners.{head_of}
use Rattle.session_base.proofs.SessionBoards.{board_stays}
use Rattle.race_command.proofs.RunnerLaws.{held_over, session_told, when_ok}
use Rattle.race_command.proofs.runner.Runner.hold.Goals as goal

pub returns-clause-board : goal.returns-clause-board
returns-clause-board g c = board_stays c.args.spelling _ _ _ _ c.args.self.now.reader c.session-ended.new.reader _ _ _ _ c.session-ended.result c.session-ended.ensures.ok c.session-ended.ensures.err

pub returns-clause-held : goal.returns-clause-held
returns-clause-held g c =
    let given = c.new-input.result.rest.now in
    let told = c.begin.new.text.bytes in
    held_over c.args.spelling c.args.self.now.reader.board.subject c.args.script.now given (head_of c.args.round c.args.number) told c.new-input.ensures (when_ok c.begin.result (sym c.is_err.ensures.value ∙ c.if-is_err.false) c.begin.ensures) c.args.self.now.reader.pass.floor c.session-ended.new.reader.pass.floor c.session-ended.result c.session-ended.new.out.bytes
    (session_told c.args.spelling given c.session-ended.new.input.rest.now told c.session-ended.new.out.bytes c.args.self.now.reader c.session-ended.new.reader _ _ c.session-ended.result (subst (λ (l : List ℕ). length l ≤ 1048576) (sym c.new-input.ensures) c.requires.script) c.session-ended.ensures.ok c.session-ended.ensures.err)

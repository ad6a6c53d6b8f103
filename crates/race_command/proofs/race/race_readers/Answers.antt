use Rattle.std.proofs.Common.{◌≡◌, ℕ, length, subst, ◌∙◌}
use Rattle.outside.specs.Counts.{Rose}
use Rattle.stage_core.specs.Machines.{FitsFile}
use Rattle.index_pool.specs.Ends.{IsLast}
use Rattle.race_command.specs.RaceEnds.{HasEnded}
use Rattle.race_command.specs.Races.{SaysRace}
use Rattle.command_base.specs.Replies.{Wrote}
use Rattle.race_command.specs.Runners.{EachAt, WasHeldTwice}
use Rattle.race_command.proofs.RaceLaws.{causes_of_race, within_limit, wrote_race}
use Rattle.race_command.proofs.RunnerLaws.{boards, first_held, second_held}
use Rattle.race_command.proofs.race.race_readers.Goals as goal

pub tell-requires-clause-boards : goal.tell-requires-clause-boards
tell-requires-clause-boards g c =
    boards c.args.spelling c.args.board.now c.args.script.now c.race_beside-ended.new.runners (first_held c.args.spelling c.args.board.now c.args.script.now c.args.pass.now.floor c.requires.reached c.args.runners.now c.race_beside-ended.new.runners c.requires.fresh c.race_beside-ended.ensures.answered)

pub returns-clause-wrote : goal.returns-clause-wrote
returns-clause-wrote g c =
    let board = c.args.board.now in
    let script = c.args.script.now in
    let built = c.race_beside-ended in
    let ended = built.result in
    let first = first_held c.args.spelling board script c.args.pass.now.floor c.requires.reached c.args.runners.now built.new.runners c.requires.fresh built.ensures.answered in
    let twice = second_held c.args.spelling board script built.new.pass.floor built.new.runners c.tell.new.runners c.answer_all.new.runners first c.tell.ensures.told c.answer_all.ensures in
    let h : HasEnded c.args.spelling board script c.answer_all.new.runners ended = record {
      is_gdb = c.requires.kind;
      each = subst (λ (floor : ℕ). EachAt (WasHeldTwice c.args.spelling board script floor) c.answer_all.new.runners) built.ensures.ended twice;
      last = subst IsLast built.ensures.ended built.ensures.last;
      fits = subst (FitsFile board.subject) built.ensures.ended built.ensures.fits;
    } in
    let count : length c.answer_all.new.runners ≡ length c.args.runners.now = c.answer_all.ensures.count ∙ c.tell.ensures.told.count ∙ built.ensures.answered.count in
    subst (λ (n : ℕ). Wrote (SaysRace c.args.spelling board.subject.file n script) c.finish.result (g.K.Sink.written c.args.out.now) (g.K.Sink.written c.finish.new.out)) count
    (wrote_race c.args.spelling board script c.answer_all.new.runners ended h c.finish.result (g.K.Sink.written c.args.out.now) (g.K.Sink.written c.finish.new.out) (Rose (g.K.Sink.write_faults c.args.out.now) (g.K.Sink.write_faults c.finish.new.out)) c.finish.ensures.finished)

pub returns-clause-limit : goal.returns-clause-limit
returns-clause-limit g c = within_limit c.answer_all.new.runners c.race_beside-ended.result c.finish.result (g.K.Sink.written c.args.out.now) (g.K.Sink.written c.finish.new.out) (Rose (g.K.Sink.write_faults c.args.out.now) (g.K.Sink.write_faults c.finish.new.out)) c.finish.ensures.finished

pub returns-clause-causes : goal.returns-clause-causes
returns-clause-causes g c = causes_of_race c.answer_all.new.runners c.race_beside-ended.result c.finish.result (g.K.Sink.written c.args.out.now) (g.K.Sink.written c.finish.new.out) (Rose (g.K.Sink.write_faults c.args.out.now) (g.K.Sink.write_faults c.finish.new.out)) c.finish.ensures.finished

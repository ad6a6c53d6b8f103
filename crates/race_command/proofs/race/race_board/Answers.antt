use Rattle.std.proofs.Common.{◌≡◌, ℕ, length, All, sym, subst, ◌∙◌}
use Rattle.std.proofs.lemmas.List.Elements.{All-same}
use Rattle.index_model.specs.Stages.{initial, IsReachable}
use Rattle.command_base.specs.Replies.{Wrote}
use Rattle.race_command.specs.Races.{SaysRace}
use Rattle.race_command.specs.Runners.{IsFresh}
use Rattle.race_command.proofs.RaceLaws.{none_appended, nothing_raced}
use Rattle.race_command.proofs.race.race_board.Goals as goal

pub race_readers-requires-clause-reached : goal.race_readers-requires-clause-reached
race_readers-requires-clause-reached g c κs within = subst (IsReachable initial) (sym c.gather.ensures.floor) c.requires.reached

pub race_readers-requires-clause-fresh : goal.race_readers-requires-clause-fresh
race_readers-requires-clause-fresh g c κs within =
    let board = c.args.board.now in
    let floor = c.args.pass.now.floor in
    subst (λ (f : ℕ). All (IsFresh board f) c.deref_mut.result.now) (sym c.gather.ensures.floor)
    (All-same (IsFresh board floor) c.deref_mut.result.now c.in-Ok.runners.items c.deref_mut.ensures.value c.in-Ok.ensures.fresh)

pub returns-in-Ok-clause-wrote : goal.returns-in-Ok-clause-wrote
returns-in-Ok-clause-wrote g c =
    let count : length c.deref_mut.result.now ≡ c.args.readers = c.deref_mut.ensures.len ∙ c.in-Ok.ensures.count in
    subst (λ (n : ℕ). Wrote (SaysRace c.args.spelling c.args.board.now.subject.file n c.args.script.now) c.race_readers.result (g.K.Sink.written c.args.out.now) (g.K.Sink.written c.race_readers.new.out)) count c.race_readers.ensures.wrote

-- where the readers were refused memory
pub returns-in-Err-clause-wrote : goal.returns-in-Err-clause-wrote
returns-in-Err-clause-wrote g c = nothing_raced c.args.spelling c.args.board.now.subject.file c.args.readers c.args.script.now (g.K.Sink.written c.args.out.now)

pub returns-in-Err-clause-limit : goal.returns-in-Err-clause-limit
returns-in-Err-clause-limit g c = none_appended (g.K.Sink.written c.args.out.now)

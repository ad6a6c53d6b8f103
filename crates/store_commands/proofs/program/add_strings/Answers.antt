use Rattle.std.proofs.Common.{Err, ap}
use Rattle.store_commands.proofs.AddingLaws.{last_ok, last_room, strings_stop}
use Rattle.store_commands.proofs.program.add_strings.Goals as goal

pub returns-in-Ok-clause-ok : goal.returns-in-Ok-clause-ok
returns-in-Ok-clause-ok c = last_ok c.args.adder.now c.args.strings.now c.requires.one c.requires.first c.extend.new.self c.in-Ok.ensures.adds

pub returns-in-Ok-clause-room : goal.returns-in-Ok-clause-room
returns-in-Ok-clause-room c = last_room c.args.adder.now c.args.strings.now c.requires.one c.requires.first c.extend.new.self c.in-Ok.ensures.adds

pub returns-in-Err-clause-err : goal.returns-in-Err-clause-err
returns-in-Err-clause-err c = rw c.stopped.ensures (strings_stop c.args.adder.now c.args.strings.now c.requires.one c.requires.first c.extend.new.self c.in-Err.stop (λ e. c.in-Err.ensures.memory (ap Err e)) c.in-Err.ensures.adds)

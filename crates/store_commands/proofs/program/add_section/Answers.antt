use Rattle.store_commands.proofs.AddingLaws.{first_ok, first_room, section_stops}
use Rattle.store_commands.proofs.program.add_section.Goals as goal

pub returns-in-Ok-clause-ok : goal.returns-in-Ok-clause-ok
returns-in-Ok-clause-ok c = first_ok c.args.adder.now c.args.name.now c.args.bytes.now c.requires.fresh c.section.new.self c.in-Ok.ensures

pub returns-in-Ok-clause-room : goal.returns-in-Ok-clause-room
returns-in-Ok-clause-room c = first_room c.args.adder.now c.args.name.now c.args.bytes.now c.requires.fresh c.section.new.self c.in-Ok.ensures

pub returns-in-Err-clause-err : goal.returns-in-Err-clause-err
returns-in-Err-clause-err c = rw c.stopped.ensures (section_stops c.args.adder.now c.args.name.now c.args.bytes.now c.requires.fresh c.section.new.self c.in-Err.stop c.in-Err.ensures)

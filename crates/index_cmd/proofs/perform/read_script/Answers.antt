use Rattle.std.proofs.Common.{length, Err, sym, ap, subst, arith}
use Rattle.race_command.specs.declared.script.TheConstants.{MAX_SCRIPT_BYTES}
use Rattle.outside.specs.Counts.{Rose}
use Rattle.command_base.specs.FilesRead.{Holds}
use Rattle.command_base.specs.Replies.{Wrote}
use Rattle.command_base.specs.declared.status.Status.{Status}
use Rattle.race_command.specs.Races.{SaysRace}
use Rattle.index_cmd.specs.Doings.{CausesBeside, SaysBeside}
use Rattle.index_cmd.proofs.Beside.{causes_raced, causes_stopped, wrote_beside, wrote_stopped}
use Rattle.index_cmd.proofs.perform.read_script.Goals as goal

pub returns-in-Ok-clause-wrote : goal.returns-in-Ok-clause-wrote
returns-in-Ok-clause-wrote g c =
    let told = g.F.Shelf.files c.args.shelf.now in
    let file = c.args.script.now in
    let held = c.deref.result.now in
    let holds = subst (Holds told file) (sym c.deref.ensures.value) c.in-Ok.ensures.whole in
    wrote_beside told file held MAX_SCRIPT_BYTES (SaysRace c.args.how.spelling c.args.bytes.now c.args.how.readers) holds (omega (arith, c.in-Ok.ensures.bounded, ap length c.deref.ensures.value)) c.race_file.result (g.K.Sink.written c.args.out.now) (g.K.Sink.written c.race_file.new.out) c.race_file.ensures.wrote

pub returns-in-Ok-clause-causes : goal.returns-in-Ok-clause-causes
returns-in-Ok-clause-causes g c = causes_raced (g.F.Shelf.files c.args.shelf.now) c.args.script.now MAX_SCRIPT_BYTES _ _ c.race_file.result c.race_file.ensures.causes

pub returns-in-Err-clause-wrote : goal.returns-in-Err-clause-wrote
returns-in-Err-clause-wrote g c =
    let says = SaysBeside (g.F.Shelf.files c.args.shelf.now) c.args.script.now MAX_SCRIPT_BYTES (SaysRace c.args.how.spelling c.args.bytes.now c.args.how.readers) in
    let out = g.K.Sink.written c.args.out.now in
    subst (λ (s : Status). Wrote says s out out) (sym c.unread_status.ensures) (wrote_stopped says out c.in-Err.stop)

pub returns-in-Err-clause-causes : goal.returns-in-Err-clause-causes
returns-in-Err-clause-causes g c =
    let told = g.F.Shelf.files c.args.shelf.now in
    let reads = Rose (g.F.Shelf.read_faults c.args.shelf.now) (g.F.Shelf.read_faults c.read_file.new.shelf) in
    let writes = Rose (g.K.Sink.write_faults c.args.out.now) (g.K.Sink.write_faults c.args.out.now) in
    subst (CausesBeside told c.args.script.now MAX_SCRIPT_BYTES reads writes) (sym c.unread_status.ensures)
    (causes_stopped told c.args.script.now MAX_SCRIPT_BYTES reads writes c.in-Err.stop (λ e. c.in-Err.ensures.fault (ap Err e)) (λ e. c.in-Err.ensures.too_big (ap Err e)))

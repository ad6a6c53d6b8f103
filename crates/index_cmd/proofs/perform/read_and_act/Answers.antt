use Rattle.std.proofs.Common.{length, Err, Some, refl, sym, ap, subst, arith}
use Rattle.outside.specs.Counts.{Rose}
use Rattle.command_base.specs.FilesRead.{Holds}
use Rattle.command_base.specs.declared.status.Status.{Status}
use Rattle.session_base.specs.Heard.{heard}
use Rattle.index_cmd.specs.Doings.{Did}
use Rattle.index_cmd.specs.Runs.{ran}
use Rattle.index_cmd.specs.Tasks.{request_on}
use Rattle.index_cmd.proofs.Fileless.{stopped_reading}
use Rattle.index_cmd.proofs.KeptUses.{unread_file}
use Rattle.index_cmd.proofs.perform.read_and_act.Goals as goal

pub returns-in-Ok-clause-did : goal.returns-in-Ok-clause-did
returns-in-Ok-clause-did g c =
    let file = c.args.on.now.file.now in
    let read = c.in-Ok.ensures in
    c.act.ensures.did file c.args.shelf.now (record {
      same = read.kept;
      holds = subst (Holds (g.F.Shelf.files c.args.shelf.now) file) (sym c.deref.ensures.value) read.whole;
      small = omega (arith, read.bounded, ap length c.deref.ensures.value);
      reads_on = read.reads;
      stores_stay = read.stores;
      kept_stay = read.kept_reads;
    })

pub returns-in-Err-clause-did : goal.returns-in-Err-clause-did
returns-in-Err-clause-did g c =
    let on = c.args.on.now in
    let told = g.F.Shelf.files c.args.shelf.now in
    let shelf = g.F.Shelf.files c.read_file.new.shelf in
    let input = heard g.S.Source.left g.S.Source.read_faults c.args.input.now c.args.input.now in
    let reads = Rose (g.F.Shelf.read_faults c.args.shelf.now) (g.F.Shelf.read_faults c.read_file.new.shelf) in
    let stores = Rose (g.F.Shelf.store_faults c.args.shelf.now) (g.F.Shelf.store_faults c.read_file.new.shelf) in
    let kept = Rose (g.F.Shelf.kept_faults c.args.shelf.now) (g.F.Shelf.kept_faults c.read_file.new.shelf) in
    let writes = Rose (g.K.Sink.write_faults c.args.out.now) (g.K.Sink.write_faults c.args.out.now) in
    let out = g.K.Sink.written c.args.out.now in
    subst (λ (s : Status). Did (ran g.F.Shelf g.S.Source g.K.Sink (Some (request_on on.file.now on.action)) c.args.shelf.now c.read_file.new.shelf c.args.input.now c.args.input.now c.args.out.now c.args.out.now) s) (sym c.unread_status.ensures) (record {
      does = stopped_reading on.file.now on.action told shelf input reads stores writes out c.in-Err.ensures.kept c.in-Err.stop (λ e. c.in-Err.ensures.fault (ap Err e)) (λ e. c.in-Err.ensures.too_big (ap Err e));
      uses = unread_file told shelf kept stores out out (Some (request_on on.file.now on.action)) c.in-Err.stop;
      input = λ _. refl;
    })

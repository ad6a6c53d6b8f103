use Rattle.std.proofs.Common.{Some, refl, sym, subst}
use Rattle.outside.specs.Counts.{Rose}
use Rattle.session_base.specs.Heard.{heard}
use Rattle.index_cmd.specs.Doings.{Did}
use Rattle.index_cmd.specs.Requests.{TheHelp, TheVersion}
use Rattle.index_cmd.specs.Runs.{ran}
use Rattle.index_cmd.specs.Tasks.{request_seen, IsInBounds}
use Rattle.index_cmd.specs.declared.task.Requested.{Requested}
use Rattle.index_cmd.proofs.Fileless.{drilled, own_text}
use Rattle.index_cmd.proofs.perform.perform.Goals as goal

pub returns-in-Help-clause-did : goal.returns-in-Help-clause-did
returns-in-Help-clause-did g c =
    let call = c.say in
    let told = g.F.Shelf.files c.args.shelf.now in
    let input = heard g.S.Source.left g.S.Source.read_faults c.args.input.now c.args.input.now in
    let reads = Rose (g.F.Shelf.read_faults c.args.shelf.now) (g.F.Shelf.read_faults c.args.shelf.now) in
    let stores = Rose (g.F.Shelf.store_faults c.args.shelf.now) (g.F.Shelf.store_faults c.args.shelf.now) in
    let writes = Rose (g.K.Sink.write_faults c.args.out.now) (g.K.Sink.write_faults call.new.out) in
    let old = g.K.Sink.written c.args.out.now in
    let new = g.K.Sink.written call.new.out in
    subst (λ (t : Requested). Did (ran g.F.Shelf g.S.Source g.K.Sink (Some (request_seen t)) c.args.shelf.now c.args.shelf.now c.args.input.now c.args.input.now c.args.out.now call.new.out) call.result) (sym c.in-Help.is) (record {
      does = own_text TheHelp told input reads stores writes old new c.as_bytes.result.now tt tt c.as_bytes.ensures.value call.result call.ensures.said call.ensures.either call.ensures.fault call.ensures.left;
      uses = tt;
      input = λ _. refl;
    })

pub returns-in-Version-clause-did : goal.returns-in-Version-clause-did
returns-in-Version-clause-did g c =
    let call = c.say-in-Version in
    let told = g.F.Shelf.files c.args.shelf.now in
    let input = heard g.S.Source.left g.S.Source.read_faults c.args.input.now c.args.input.now in
    let reads = Rose (g.F.Shelf.read_faults c.args.shelf.now) (g.F.Shelf.read_faults c.args.shelf.now) in
    let stores = Rose (g.F.Shelf.store_faults c.args.shelf.now) (g.F.Shelf.store_faults c.args.shelf.now) in
    let writes = Rose (g.K.Sink.write_faults c.args.out.now) (g.K.Sink.write_faults call.new.out) in
    let old = g.K.Sink.written c.args.out.now in
    let new = g.K.Sink.written call.new.out in
    subst (λ (t : Requested). Did (ran g.F.Shelf g.S.Source g.K.Sink (Some (request_seen t)) c.args.shelf.now c.args.shelf.now c.args.input.now c.args.input.now c.args.out.now call.new.out) call.result) (sym c.in-Version.is) (record {
      does = own_text TheVersion told input reads stores writes old new c.as_bytes-in-Version.result.now tt tt c.as_bytes-in-Version.ensures.value call.result call.ensures.said call.ensures.either call.ensures.fault call.ensures.left;
      uses = tt;
      input = λ _. refl;
    })

pub run_drill-requires-clause-one_unit : goal.run_drill-requires-clause-one_unit
run_drill-requires-clause-one_unit g c κs within = (subst IsInBounds c.in-Drill.is c.requires.bounds).0

pub run_drill-requires-clause-few_units : goal.run_drill-requires-clause-few_units
run_drill-requires-clause-few_units g c κs within = (subst IsInBounds c.in-Drill.is c.requires.bounds).1

pub returns-in-Drill-clause-did : goal.returns-in-Drill-clause-did
returns-in-Drill-clause-did g c =
    let call = c.run_drill in
    let told = g.F.Shelf.files c.args.shelf.now in
    let input = heard g.S.Source.left g.S.Source.read_faults c.args.input.now c.args.input.now in
    let reads = Rose (g.F.Shelf.read_faults c.args.shelf.now) (g.F.Shelf.read_faults c.args.shelf.now) in
    let stores = Rose (g.F.Shelf.store_faults c.args.shelf.now) (g.F.Shelf.store_faults c.args.shelf.now) in
    let writes = Rose (g.K.Sink.write_faults c.args.out.now) (g.K.Sink.write_faults call.new.out) in
    let old = g.K.Sink.written c.args.out.now in
    let new = g.K.Sink.written call.new.out in
    subst (λ (t : Requested). Did (ran g.F.Shelf g.S.Source g.K.Sink (Some (request_seen t)) c.args.shelf.now c.args.shelf.now c.args.input.now c.args.input.now c.args.out.now call.new.out) call.result) (sym c.in-Drill.is) (record {
      does = drilled _ _ told input reads stores writes old new call.result call.ensures.wrote call.ensures.causes;
      uses = tt;
      input = λ _. refl;
    })

pub read_and_act-requires-clause-bounds : goal.read_and_act-requires-clause-bounds
read_and_act-requires-clause-bounds g c κs within = subst IsInBounds c.in-OnFile.is c.requires.bounds

pub returns-in-OnFile-clause-did : goal.returns-in-OnFile-clause-did
returns-in-OnFile-clause-did g c =
    let call = c.read_and_act in
    subst (λ (t : Requested). Did (ran g.F.Shelf g.S.Source g.K.Sink (Some (request_seen t)) c.args.shelf.now call.new.shelf c.args.input.now call.new.input c.args.out.now call.new.out) call.result) (sym c.in-OnFile.is) call.ensures.did

use Rattle.std.proofs.Common.{Some, refl, sym, subst}
use Rattle.outside.specs.Counts.{Rose}
use Rattle.session_base.specs.Heard.{heard}
use Rattle.index_cmd.specs.Doings.{Did}
use Rattle.index_cmd.specs.Runs.{ran}
use Rattle.index_cmd.specs.Tasks.{request_on, IsActionInBounds}
use Rattle.index_cmd.specs.declared.task.Action.{Action}
use Rattle.index_cmd.proofs.Doings.{added, asked, cached_does, compared, indexed, listed, looked, looked_names, raced, served}
use Rattle.index_cmd.proofs.Inputs.{served_unread}
use Rattle.index_cmd.proofs.KeptUses.{uses}
use Rattle.index_cmd.proofs.perform.act.Goals as goal

pub returns-in-Ask-clause-did : goal.returns-in-Ask-clause-did
returns-in-Ask-clause-did g c file before was =
    let call = c.ask_file in
    let input = heard g.S.Source.left g.S.Source.read_faults c.args.input.now c.args.input.now in
    let writes = Rose (g.K.Sink.write_faults c.args.out.now) (g.K.Sink.write_faults call.new.out) in
    let old = g.K.Sink.written c.args.out.now in
    let new = g.K.Sink.written call.new.out in
    subst (λ (a : Action). Did (ran g.F.Shelf g.S.Source g.K.Sink (Some (request_on file a)) before c.args.shelf.now c.args.input.now c.args.input.now c.args.out.now call.new.out) call.result) (sym c.in-Ask.is) (record {
      does = asked g.F.Shelf before c.args.shelf.now c.args.shelf.now file c.args.bytes.now input writes was old new _ call.result call.ensures.wrote call.ensures.causes;
      uses = tt;
      input = λ _. refl;
    })

pub returns-in-Index-clause-did : goal.returns-in-Index-clause-did
returns-in-Index-clause-did g c file before was =
    let call = c.index_file in
    let input = heard g.S.Source.left g.S.Source.read_faults c.args.input.now c.args.input.now in
    let writes = Rose (g.K.Sink.write_faults c.args.out.now) (g.K.Sink.write_faults call.new.out) in
    let old = g.K.Sink.written c.args.out.now in
    let new = g.K.Sink.written call.new.out in
    subst (λ (a : Action). Did (ran g.F.Shelf g.S.Source g.K.Sink (Some (request_on file a)) before call.new.shelf c.args.input.now c.args.input.now c.args.out.now call.new.out) call.result) (sym c.in-Index.is) (record {
      does = indexed g.F.Shelf before c.args.shelf.now call.new.shelf file c.args.bytes.now input writes was old new _ _ (g.F.Shelf.files call.new.shelf) call.result call.ensures.wrote call.ensures.causes call.ensures.leaves;
      uses = tt;
      input = λ _. refl;
    })

pub returns-in-Add-clause-did : goal.returns-in-Add-clause-did
returns-in-Add-clause-did g c file before was =
    let call = c.add_file in
    let input = heard g.S.Source.left g.S.Source.read_faults c.args.input.now c.args.input.now in
    let writes = Rose (g.K.Sink.write_faults c.args.out.now) (g.K.Sink.write_faults call.new.out) in
    let old = g.K.Sink.written c.args.out.now in
    let new = g.K.Sink.written call.new.out in
    subst (λ (a : Action). Did (ran g.F.Shelf g.S.Source g.K.Sink (Some (request_on file a)) before call.new.shelf c.args.input.now c.args.input.now c.args.out.now call.new.out) call.result) (sym c.in-Add.is) (record {
      does = added g.F.Shelf before c.args.shelf.now call.new.shelf file c.args.bytes.now input writes was old new _ _ (g.F.Shelf.files call.new.shelf) call.result call.ensures.wrote call.ensures.causes call.ensures.leaves;
      uses = tt;
      input = λ _. refl;
    })

pub returns-in-LookGdb-clause-did : goal.returns-in-LookGdb-clause-did
returns-in-LookGdb-clause-did g c file before was =
    let call = c.look_gdb in
    let input = heard g.S.Source.left g.S.Source.read_faults c.args.input.now c.args.input.now in
    let writes = Rose (g.K.Sink.write_faults c.args.out.now) (g.K.Sink.write_faults call.new.out) in
    let old = g.K.Sink.written c.args.out.now in
    let new = g.K.Sink.written call.new.out in
    subst (λ (a : Action). Did (ran g.F.Shelf g.S.Source g.K.Sink (Some (request_on file a)) before c.args.shelf.now c.args.input.now c.args.input.now c.args.out.now call.new.out) call.result) (sym c.in-LookGdb.is) (record {
      does = looked g.F.Shelf before c.args.shelf.now c.args.shelf.now file c.args.bytes.now input writes was old new _ call.result call.ensures.wrote call.ensures.causes;
      uses = tt;
      input = λ _. refl;
    })

pub returns-in-LookNames-clause-did : goal.returns-in-LookNames-clause-did
returns-in-LookNames-clause-did g c file before was =
    let call = c.read_strings in
    let input = heard g.S.Source.left g.S.Source.read_faults c.args.input.now c.args.input.now in
    let writes = Rose (g.K.Sink.write_faults c.args.out.now) (g.K.Sink.write_faults call.new.out) in
    let old = g.K.Sink.written c.args.out.now in
    let new = g.K.Sink.written call.new.out in
    subst (λ (a : Action). Did (ran g.F.Shelf g.S.Source g.K.Sink (Some (request_on file a)) before call.new.shelf c.args.input.now c.args.input.now c.args.out.now call.new.out) call.result) (sym c.in-LookNames.is) (record {
      does = looked_names g.F.Shelf before c.args.shelf.now call.new.shelf file c.args.bytes.now input writes was old new _ _ _ (g.F.Shelf.files call.new.shelf) call.ensures.kept call.result call.ensures.wrote call.ensures.causes;
      uses = tt;
      input = λ _. refl;
    })

pub serve_file-requires-clause-wait : goal.serve_file-requires-clause-wait
serve_file-requires-clause-wait g c κs within = subst IsActionInBounds c.in-Serve.is c.requires.bounds

pub returns-in-Serve-clause-did : goal.returns-in-Serve-clause-did
returns-in-Serve-clause-did g c file before was =
    let call = c.serve_file in
    let input = heard g.S.Source.left g.S.Source.read_faults c.args.input.now call.new.input in
    let writes = Rose (g.K.Sink.write_faults c.args.out.now) (g.K.Sink.write_faults call.new.out) in
    let old = g.K.Sink.written c.args.out.now in
    let new = g.K.Sink.written call.new.out in
    subst (λ (a : Action). Did (ran g.F.Shelf g.S.Source g.K.Sink (Some (request_on file a)) before c.args.shelf.now c.args.input.now call.new.input c.args.out.now call.new.out) call.result) (sym c.in-Serve.is) (record {
      does = served g.F.Shelf before c.args.shelf.now c.args.shelf.now file c.args.bytes.now input writes was old new c.in-Serve.how call.result call.ensures.wrote call.ensures.causes;
      uses = tt;
      input = served_unread writes c.in-Serve.how file _ call.result call.ensures.causes;
    })

pub read_script-requires-clause-one_reader : goal.read_script-requires-clause-one_reader
read_script-requires-clause-one_reader g c κs within = (subst IsActionInBounds c.in-Race.is c.requires.bounds).some

pub read_script-requires-clause-few_readers : goal.read_script-requires-clause-few_readers
read_script-requires-clause-few_readers g c κs within = (subst IsActionInBounds c.in-Race.is c.requires.bounds).few

pub returns-in-Race-clause-did : goal.returns-in-Race-clause-did
returns-in-Race-clause-did g c file before was =
    let call = c.read_script in
    let input = heard g.S.Source.left g.S.Source.read_faults c.args.input.now c.args.input.now in
    let writes = Rose (g.K.Sink.write_faults c.args.out.now) (g.K.Sink.write_faults call.new.out) in
    let old = g.K.Sink.written c.args.out.now in
    let new = g.K.Sink.written call.new.out in
    subst (λ (a : Action). Did (ran g.F.Shelf g.S.Source g.K.Sink (Some (request_on file a)) before call.new.shelf c.args.input.now c.args.input.now c.args.out.now call.new.out) call.result) (sym c.in-Race.is) (record {
      does = raced g.F.Shelf before c.args.shelf.now call.new.shelf file c.args.bytes.now input writes was old new c.in-Race.how _ (g.F.Shelf.files call.new.shelf) call.ensures.kept call.result call.ensures.wrote call.ensures.causes;
      uses = tt;
      input = λ _. refl;
    })

pub returns-in-Aranges-clause-did : goal.returns-in-Aranges-clause-did
returns-in-Aranges-clause-did g c file before was =
    let call = c.aranges_file in
    let input = heard g.S.Source.left g.S.Source.read_faults c.args.input.now c.args.input.now in
    let writes = Rose (g.K.Sink.write_faults c.args.out.now) (g.K.Sink.write_faults call.new.out) in
    let old = g.K.Sink.written c.args.out.now in
    let new = g.K.Sink.written call.new.out in
    subst (λ (a : Action). Did (ran g.F.Shelf g.S.Source g.K.Sink (Some (request_on file a)) before c.args.shelf.now c.args.input.now c.args.input.now c.args.out.now call.new.out) call.result) (sym c.in-Aranges.is) (record {
      does = compared g.F.Shelf before c.args.shelf.now c.args.shelf.now file c.args.bytes.now input writes was old new call.result call.ensures.wrote call.ensures.causes;
      uses = tt;
      input = λ _. refl;
    })

pub returns-in-Files-clause-did : goal.returns-in-Files-clause-did
returns-in-Files-clause-did g c file before was =
    let call = c.list_files in
    let input = heard g.S.Source.left g.S.Source.read_faults c.args.input.now c.args.input.now in
    let writes = Rose (g.K.Sink.write_faults c.args.out.now) (g.K.Sink.write_faults call.new.out) in
    let old = g.K.Sink.written c.args.out.now in
    let new = g.K.Sink.written call.new.out in
    subst (λ (a : Action). Did (ran g.F.Shelf g.S.Source g.K.Sink (Some (request_on file a)) before c.args.shelf.now c.args.input.now c.args.input.now c.args.out.now call.new.out) call.result) (sym c.in-Files.is) (record {
      does = listed g.F.Shelf before c.args.shelf.now c.args.shelf.now file c.args.bytes.now input writes was old new _ call.result call.ensures.wrote call.ensures.causes;
      uses = tt;
      input = λ _. refl;
    })

pub cached_file-requires-clause-offered : goal.cached_file-requires-clause-offered
cached_file-requires-clause-offered g c κs within = subst IsActionInBounds c.in-Cached.is c.requires.bounds

pub returns-in-Cached-clause-did : goal.returns-in-Cached-clause-did
returns-in-Cached-clause-did g c file before was =
    let call = c.cached_file in
    let input = heard g.S.Source.left g.S.Source.read_faults c.args.input.now c.args.input.now in
    let writes = Rose (g.K.Sink.write_faults c.args.out.now) (g.K.Sink.write_faults call.new.out) in
    let old = g.K.Sink.written c.args.out.now in
    let new = g.K.Sink.written call.new.out in
    subst (λ (a : Action). Did (ran g.F.Shelf g.S.Source g.K.Sink (Some (request_on file a)) before call.new.shelf c.args.input.now c.args.input.now c.args.out.now call.new.out) call.result) (sym c.in-Cached.is) (record {
      does = cached_does g.F.Shelf before c.args.shelf.now call.new.shelf file c.args.bytes.now input writes was old new _ _ (g.F.Shelf.files call.new.shelf) call.result call.ensures.wrote call.ensures.causes call.ensures.leaves;
      uses = uses g.F.Shelf before c.args.shelf.now call.new.shelf file c.args.bytes.now _ _ was old new call.result call.ensures.tied call.ensures.cut call.ensures.looks_first;
      input = λ _. refl;
    })

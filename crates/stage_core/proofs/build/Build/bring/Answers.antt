use Rattle.std.proofs.Common.{Bool, sym, ◌∙◌}
use Rattle.index_model.specs.Machine.{JobPlace}
use Rattle.index_model.specs.MachineEvents.{is_memory}
use Rattle.stage_core.specs.declared.build.Build.{Build}
use Rattle.stage_core.specs.Outputs.{output_seen}
use Rattle.stage_core.specs.Place.{place_seen}
use Rattle.stage_core.proofs.FinishLaws.{still_open, stopped_fits}
use Rattle.stage_core.proofs.build.Build.bring.Goals as goal

pub returns-then-is_stopped-clause-fits : goal.returns-then-is_stopped-clause-fits
returns-then-is_stopped-clause-fits c =
    let a : Build = c.args.self.now in
    let b : Build = record a { tasks = c.clear.new.self } in
    let place : JobPlace = place_seen c.args.place in
    let memory : Bool = is_memory (output_seen c.args.output) in
    stopped_fits a place (output_seen c.args.output) c.requires.fits c.requires.running memory c.bring.new.self b c.bring.ensures (sym c.is_stopped.ensures ∙ c.if-is_stopped.true) c.clear.ensures.items

pub decide-requires : goal.decide-requires
decide-requires c =
    let a : Build = c.args.self.now in
    let place : JobPlace = place_seen c.args.place in
    let memory : Bool = is_memory (output_seen c.args.output) in
    still_open a place (output_seen c.args.output) c.requires.fits c.requires.running memory c.bring.new.self c.bring.ensures (sym c.is_stopped.ensures ∙ c.if-is_stopped.false)

use Rattle.std.proofs.Common.{◌≡◌, Bool, true, false, refl, sym, ◌∙◌}
use Rattle.index_model.specs.MachineEvents.{is_memory}
use Rattle.stage_core.specs.declared.progress.End.TheVariants as ends
use Rattle.stage_core.specs.Outputs.{output_seen}
use Rattle.stage_core.proofs.ProgressLaws.{brings}
use Rattle.stage_core.proofs.progress.Progress.bring.Goals as goal
use Rattle.stage_core.proofs.progress.Progress.bring.Goals.{then-wants_memory, else-wants_memory}

pub returns : goal.returns
returns c =
    let memory : Bool = is_memory (output_seen c.args.output) in
    elim c.if-wants_memory.branch [
      | then-wants_memory w ↦
          let yes : memory ≡ true = sym c.wants_memory.ensures ∙ w.if-wants_memory.true in
          rw (w.self-inside-is, ← c.self.view_is) (brings c.self.inside c.args.number c.args.output ends.Stopped memory (rw yes refl))
      | else-wants_memory w ↦
          let no : memory ≡ false = sym c.wants_memory.ensures ∙ w.if-wants_memory.false in
          rw (w.self-inside-is, ← c.self.view_is) (brings c.self.inside c.args.number c.args.output c.self.inside.end memory (rw no refl))
    ]

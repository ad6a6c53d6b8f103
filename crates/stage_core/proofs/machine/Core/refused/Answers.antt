use Rattle.std.proofs.Common.{◌≡◌, Some, ap, ◌∙◌}
use Rattle.index_model.specs.LawsCore.{early_fault}
use Rattle.stage_core.specs.declared.build.Build.{Build}
use Rattle.stage_core.proofs.CoreLaws.{refused_machine, refused_seen, refused_is_sound}
use Rattle.stage_core.proofs.machine.Core.refused.Goals as goal

pub invariant_of-result : goal.invariant_of-result
invariant_of-result c =
    let b : Build = c.refused.result in
    let early : early_fault b.file.now ≡ Some c.args.fault = rw c.refused.ensures.file c.requires in
    record { fits = c.refused.ensures.fits; reached = refused_is_sound b c.args.fault early c.refused.ensures.runs c.refused.ensures.state }

pub returns : goal.returns
returns c =
    let b : Build = c.refused.result in
    refused_seen b c.args.fault c.refused.ensures.runs c.refused.ensures.state ∙
    (ap (λ file. refused_machine file.now b.cache c.args.fault) c.refused.ensures.file ∙ ap (λ cache. refused_machine c.args.file.now cache c.args.fault) c.refused.ensures.cache)

use Rattle.std.proofs.Common.{sym, subst}
use Rattle.std.proofs.lemmas.Result.{IfOk-weaker}
use Rattle.file_image.specs.Images.{Image}
use Rattle.gdb_index.specs.Steps.{IsSameStep, IsStepAt}
use Rattle.gdb_index.proofs.StepLaws.{same_step}
use Rattle.gdb_index.proofs.names.FileNames.step.Goals as goal

pub returns-in-Some-clause-value : goal.returns-in-Some-clause-value
returns-in-Some-clause-value c =
    let f = c.args.self.now.file in
    let o = c.args.offset in
    let known = c.in-Some.step.now in
    let own = subst (λ (e : Image). IsStepAt e.file o known) c.self.view_is (c.self.invariant.steps o known (sym c.in-Some.ensures.value)) in
    IfOk-weaker c.share.result (IsSameStep known) (IsStepAt f o) (λ other same. same_step f o known other same own) c.share.ensures

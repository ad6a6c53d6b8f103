use Rattle.std.proofs.Common.{refl}
use Rattle.std.proofs.lemmas.Result.{err_from_is_err_and}
use Rattle.parent_resolve.specs.declared.members.Step.{Step}
use Rattle.parent_resolve.specs.Followed.{followed_of}
use Rattle.parent_resolve.specs.Scopes.{IsStep, followed_at}
use Rattle.parent_resolve.specs.Traced.{IsTraced}
use Rattle.parent_resolve.proofs.Outwards.{gives_ok, ok_and, stops_as}
use Rattle.parent_resolve.proofs.Steps.{followed_wrong, followed_gives}
use Rattle.parent_resolve.proofs.members.step_over.Goals as goal

pub returns-in_err-traced-clause-value : goal.returns-in_err-traced-clause-value
returns-in_err-traced-clause-value c p file d dc node =
    let q = err_from_is_err_and c.from_residual.result c.from_residual.ensures.1 in
    rw (q.1, q.2) (stops_as c.in_err-traced.field-0.0 c.args.at (followed_of p d) (followed_at p d) (c.in_err-traced.ensures.value p file d dc node) (followed_wrong p d))

pub returns-clause-value : goal.returns-clause-value
returns-clause-value c p file d dc node =
    let n = ok_and (IsTraced p d c.in_ok-traced.traced) c.args.at (followed_of p d) (c.in_ok-traced.ensures.value p file d dc node) in
    let s : Step = record { component = c.component.result; around = c.in_ok-traced.traced.around } in
    let step = followed_gives p d c.in_ok-traced.traced n.0 n.1 n.2 c.component.result (c.component.ensures p.sections d node) s refl refl in
    gives_ok (IsStep p s) c.args.at (followed_at p d) _ step.0 step.1

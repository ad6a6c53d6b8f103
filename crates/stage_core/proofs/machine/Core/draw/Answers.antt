use Rattle.std.proofs.Common.{◌≡◌, List, option_map, ap, subst, ◌∙◌, sym}
use Rattle.index_model.specs.LawsCore.{plan_of}
use Rattle.index_model.specs.Machine.{Row}
use Rattle.index_model.specs.MachineEvents.{next_job}
use Rattle.stage_core.specs.declared.build.Build.{Build}
use Rattle.stage_core.specs.Build.{subject_of}
use Rattle.stage_core.specs.Inputs.{handed}
use Rattle.stage_core.specs.Machines.{Machine, Follows}
use Rattle.stage_core.specs.Tasks.{task_seen}
use Rattle.stage_core.proofs.CoreLaws.{plan_same, drawn_is_sound, drawn_follows}
use Rattle.stage_core.proofs.machine.Core.draw.Goals as goal

pub invariant_of-self : goal.invariant_of-self
invariant_of-self c = record {
  fits = c.draw.ensures.fits;
  reached = drawn_is_sound c.self.inside.build c.draw.new.self c.self.invariant.reached c.draw.ensures.state c.draw.ensures.subject;
}

pub returns-clause-task : goal.returns-clause-task
returns-clause-task c =
    let b : Build = c.self.inside.build in
    let drawn = option_map task_seen c.draw.result in
    let by_plan = c.draw.ensures.task ∙ ap (λ (plan : List Row). option_map (handed (subject_of b) b.progress) (next_job plan b.progress)) (sym (plan_same b)) in
    subst (λ (m : Machine). drawn ≡ option_map (handed m.subject m.state) (next_job (plan_of m.subject) m.state)) c.self.view_is by_plan

pub returns-clause-follows : goal.returns-clause-follows
returns-clause-follows c =
    let b : Build = c.draw.new.self in
    let now : Machine = record { subject = subject_of b; state = b.progress } in
    subst (λ (m : Machine). Follows m now) c.self.view_is (drawn_follows c.self.inside.build b c.self.invariant.reached c.draw.ensures.state c.draw.ensures.subject)

use Rattle.std.proofs.Common.{◌≡◌, subst, sym}
use Rattle.index_model.specs.LawsCore.{plan_of}
use Rattle.index_model.specs.Machine.{place_of_job}
use Rattle.index_model.specs.MachineEvents.{after_finish}
use Rattle.index_model.specs.Outputs.{IsOutputOf}
use Rattle.stage_core.specs.declared.build.Build.{Build}
use Rattle.stage_core.specs.Build.{subject_of}
use Rattle.stage_core.specs.Machines.{Machine, Follows}
use Rattle.stage_core.specs.Outputs.{output_seen}
use Rattle.stage_core.proofs.CoreLaws.{finished_seen, finished_is_sound, finished_follows}
use Rattle.stage_core.proofs.machine.Core.finish.Goals as goal

pub invariant_of-self : goal.invariant_of-self
invariant_of-self c =
    let a : Build = c.self.inside.build in
    let meets : IsOutputOf (subject_of a) c.args.job (output_seen c.args.output) = subst (λ (m : Machine). IsOutputOf m.subject c.args.job (output_seen c.args.output)) (sym c.self.view_is) c.requires in
    record {
      fits = c.finish.ensures.fits;
      reached = finished_is_sound a c.finish.new.self c.args.job (output_seen c.args.output) c.finish.result meets c.self.invariant.reached c.finish.ensures.state c.finish.ensures.subject;
    }

pub returns-clause-state : goal.returns-clause-state
returns-clause-state c =
    let b : Build = c.finish.new.self in
    let now : Machine = record { subject = subject_of b; state = b.progress } in
    subst (λ (m : Machine). now ≡ record m { state = after_finish (plan_of m.subject) m.state (place_of_job c.args.job) (output_seen c.args.output) c.finish.result }) c.self.view_is
    (finished_seen c.self.inside.build b c.args.job (output_seen c.args.output) c.finish.result c.finish.ensures.state c.finish.ensures.subject)

pub returns-clause-follows : goal.returns-clause-follows
returns-clause-follows c =
    let a : Build = c.self.inside.build in
    let b : Build = c.finish.new.self in
    let now : Machine = record { subject = subject_of b; state = b.progress } in
    let meets : IsOutputOf (subject_of a) c.args.job (output_seen c.args.output) = subst (λ (m : Machine). IsOutputOf m.subject c.args.job (output_seen c.args.output)) (sym c.self.view_is) c.requires in
    subst (λ (m : Machine). Follows m now) c.self.view_is (finished_follows a b c.args.job (output_seen c.args.output) c.finish.result meets c.self.invariant.reached c.finish.ensures.state c.finish.ensures.subject)

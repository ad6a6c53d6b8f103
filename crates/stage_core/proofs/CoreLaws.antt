-- What holds of a core.
use Rattle.std.proofs.Common.{◌≡◌, ◌<◌, ℕ, Bool, List, [], Some, refl, ap, sym, subst, ◌∙◌}
use Rattle.std.specs.List.{enumerate_from}
use Rattle.ix_base.specs.declared.fault.Fault.{Fault}
use Rattle.index_model.specs.declared.job.CacheKind.{CacheKind}
use Rattle.index_model.specs.declared.job.Job.{Job}
use Rattle.index_model.specs.declared.unit.Unit.{Unit as UnitHeader}
use Rattle.index_model.specs.LawsCore.{early_fault, plan_of, StateIsRight, IsState, HasRuns, BeginsAt, with_jobs, with_fault}
use Rattle.index_model.specs.Machine.{Row, IsCut, Output, State, plan_for, place_of_job, machine_start, refused_start}
use Rattle.index_model.specs.MachineEvents.{Draw, Finish, after_draw, after_finish, after_events}
use Rattle.index_model.specs.Outputs.{Subject, Made, IsOutputOf}
use Rattle.index_model.proofs.CoreRight.{core_is_right, states_go_on}
use Rattle.stage_core.specs.declared.build.Build.{Build}
use Rattle.stage_core.specs.declared.machine.Core.TheInside.{Inside}
use Rattle.stage_core.specs.Build.{SameSubject, subject_of, plan_of_build}
use Rattle.stage_core.specs.Cores.{core_seen, IsSound}
use Rattle.stage_core.specs.Cut.{cut, units_in, HasUnits}
use Rattle.stage_core.specs.Machines.{Machine, ByOneEvent, same as same_machine, draws, finishes, Follows}
use Rattle.stage_core.proofs.CutLaws.{length_cut, is_cut}
use Rattle.stage_core.proofs.UnitCount.{units_are}

pub plan_same : (b : Build) → plan_of (subject_of b) ≡ plan_of_build b
plan_same b = ap plan_for (length_cut b.runs (enumerate_from 0 (units_in b.file.now)))

pub subject_same : (a b : Build) → SameSubject a b → subject_of b ≡ subject_of a
subject_same a b same =
    ap (λ file. record { file = file.now; runs = cut b.runs (enumerate_from 0 (units_in file.now)); cache = b.cache }) same.file ∙
    (ap (λ (runs : ℕ). record { file = a.file.now; runs = cut runs (enumerate_from 0 (units_in a.file.now)); cache = b.cache }) same.runs ∙
    ap (λ cache. record { file = a.file.now; runs = cut a.runs (enumerate_from 0 (units_in a.file.now)); cache = cache }) same.cache)

pub sound_is_right : (c : Inside) (m : Machine) → core_seen c ≡ m → IsSound c → StateIsRight m.subject m.state
sound_is_right c m is sound = subst (λ (m : Machine). StateIsRight m.subject m.state) is (core_is_right (subject_of c.build) c.build.progress sound.reached)

-- ---- events

machine_is : (s u : Subject) (t v : State Made) → u ≡ s → v ≡ t → ◌≡◌ {A = Machine} (record { subject = u; state = v }) (record { subject = s; state = t })
machine_is s u t v e f = ap (λ (x : Subject). record { subject = x; state = v }) e ∙ ap (λ (x : State Made). record { subject = s; state = x }) f

moved : (s u : Subject) (t v : State Made) → u ≡ s → v ≡ t → IsState s t → IsState u v
moved s u t v e f is = subst (λ (x : Subject). IsState x v) (sym e) (subst (λ (x : State Made). IsState s x) (sym f) is)

pub drawn_seen : (a b : Build) → b.progress ≡ after_draw a.progress → SameSubject a b → ◌≡◌ {A = Machine} (record { subject = subject_of b; state = b.progress }) (record { subject = subject_of a; state = after_draw a.progress })
drawn_seen a b is same = machine_is (subject_of a) (subject_of b) (after_draw a.progress) b.progress (subject_same a b same) is

pub drawn_is_sound : (a b : Build) → IsState (subject_of a) a.progress → b.progress ≡ after_draw a.progress → SameSubject a b → IsState (subject_of b) b.progress
drawn_is_sound a b reached is same = moved (subject_of a) (subject_of b) (after_draw a.progress) b.progress (subject_same a b same) is (states_go_on (subject_of a) a.progress (Draw 0) reached tt)

finish_same : (a : Build) (job : Job) (output : Output Made) (refused : Bool) (v : State Made) → v ≡ after_finish (plan_of_build a) a.progress (place_of_job job) output refused → v ≡ after_finish (plan_of (subject_of a)) a.progress (place_of_job job) output refused
finish_same a job output refused v is = is ∙ ap (λ (plan : List Row). after_finish plan a.progress (place_of_job job) output refused) (sym (plan_same a))

pub finished_seen : (a b : Build) (job : Job) (output : Output Made) (refused : Bool) → b.progress ≡ after_finish (plan_of_build a) a.progress (place_of_job job) output refused → SameSubject a b →
    ◌≡◌ {A = Machine} (record { subject = subject_of b; state = b.progress }) (record { subject = subject_of a; state = after_finish (plan_of (subject_of a)) a.progress (place_of_job job) output refused })
finished_seen a b job output refused is same =
    machine_is (subject_of a) (subject_of b) (after_finish (plan_of (subject_of a)) a.progress (place_of_job job) output refused) b.progress (subject_same a b same) (finish_same a job output refused b.progress is)

pub finished_is_sound : (a b : Build) (job : Job) (output : Output Made) (refused : Bool) → IsOutputOf (subject_of a) job output → IsState (subject_of a) a.progress → b.progress ≡ after_finish (plan_of_build a) a.progress (place_of_job job) output refused → SameSubject a b → IsState (subject_of b) b.progress
finished_is_sound a b job output refused meets reached is same =
    moved (subject_of a) (subject_of b) (after_finish (plan_of (subject_of a)) a.progress (place_of_job job) output refused) b.progress (subject_same a b same) (finish_same a job output refused b.progress is)
    (states_go_on (subject_of a) a.progress (Finish 0 job output refused) reached (meets, tt))

-- ---- where a core begins

begun : (s : Subject) (t : State Made) → BeginsAt s t → IsState s t
unfolding after_events
begun s t begins = record { start = t; events = []; begins = begins; meet = tt; run = refl }

pub new_cut : (b : Build) (units : List UnitHeader) → HasUnits b.file.now units → 0 < b.runs → IsCut (enumerate_from 0 units) b.runs (subject_of b).runs
new_cut b units has some = subst (λ (us : List UnitHeader). IsCut (enumerate_from 0 us) b.runs (subject_of b).runs) (units_are b.file.now units has) (is_cut b.runs (enumerate_from 0 (units_in b.file.now)) some)

pub new_state : (b : Build) → b.progress ≡ machine_start (plan_of_build b) → b.progress ≡ machine_start (plan_of (subject_of b))
new_state b is = is ∙ ap (λ (plan : List Row). machine_start plan) (sym (plan_same b))

pub new_is_sound : (b : Build) (units : List UnitHeader) → HasUnits b.file.now units → 0 < b.runs → b.progress ≡ machine_start (plan_of_build b) → IsState (subject_of b) b.progress
new_is_sound b units has some is =
    let s = subject_of b in
    let runs : HasRuns s = record { sections = has.sections; units = units; sections_are = has.sections_are; units_are = has.units_are; all = (new_cut b units has some).all } in
    subst (λ (t : State Made). IsState s t) (sym (new_state b is)) (begun s (machine_start (plan_of s)) (with_jobs runs))

no_runs : {A : Type 0} (items : List A) → cut 0 items ≡ []
unfolding cut
no_runs items = refl

-- the machine of a file that is refused from the start
abbrev pub refused_machine : List ℕ → CacheKind → Fault → Machine
refused_machine file cache fault = record { subject = record { file = file; runs = []; cache = cache }; state = refused_start fault }

pub refused_seen : (b : Build) (fault : Fault) → b.runs ≡ 0 → b.progress ≡ refused_start fault → ◌≡◌ {A = Machine} (record { subject = subject_of b; state = b.progress }) (record { subject = record { file = b.file.now; runs = []; cache = b.cache }; state = refused_start fault })
refused_seen b fault none is =
    machine_is (record { file = b.file.now; runs = []; cache = b.cache }) (subject_of b) (refused_start fault) b.progress
    (ap (λ (n : ℕ). record { file = b.file.now; runs = cut n (enumerate_from 0 (units_in b.file.now)); cache = b.cache }) none ∙
    ap (λ rs. record { file = b.file.now; runs = rs; cache = b.cache }) (no_runs (enumerate_from 0 (units_in b.file.now)))) is

pub refused_is_sound : (b : Build) (fault : Fault) → early_fault b.file.now ≡ Some fault → b.runs ≡ 0 → b.progress ≡ refused_start fault → IsState (subject_of b) b.progress
refused_is_sound b fault early none is =
    let empty : (subject_of b).runs ≡ [] = ap (λ (n : ℕ). cut n (enumerate_from 0 (units_in b.file.now))) none ∙ no_runs (enumerate_from 0 (units_in b.file.now)) in
    subst (λ (t : State Made). IsState (subject_of b) t) (sym is) (begun (subject_of b) (refused_start fault) (with_fault fault early empty))

-- ---- what follows

abbrev pub machine_of : Build → Machine
machine_of b = record { subject = subject_of b; state = b.progress }

pub drawn_follows : (a b : Build) → IsState (subject_of a) a.progress → b.progress ≡ after_draw a.progress → SameSubject a b → Follows (machine_of a) (machine_of b)
drawn_follows a b reached is same = record { reached = reached; event = subst (λ (n : Machine). ByOneEvent (machine_of a) n) (sym (drawn_seen a b is same)) draws }

pub finished_follows : (a b : Build) (job : Job) (output : Output Made) (refused : Bool) → IsOutputOf (subject_of a) job output → IsState (subject_of a) a.progress → b.progress ≡ after_finish (plan_of_build a) a.progress (place_of_job job) output refused → SameSubject a b → Follows (machine_of a) (machine_of b)
finished_follows a b job output refused meets reached is same = record { reached = reached; event = subst (λ (n : Machine). ByOneEvent (machine_of a) n) (sym (finished_seen a b job output refused is same)) (finishes job output refused meets) }

pub sound_follows : (c : Inside) (m : Machine) → core_seen c ≡ m → IsSound c → Follows m m
sound_follows c m is sound = subst (λ (m : Machine). Follows m m) is (record { reached = sound.reached; event = same_machine })

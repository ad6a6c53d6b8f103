-- A running job is finished.
use Rattle.std.proofs.Common.{◌≡◌, ◌+◌, ℕ, Bool, true, false, ◌&&◌, cond, ltb, List, [], length, Option, Some, None, option_map, refl, ap, sym, subst, ◌∙◌, arith, length-set}
use Rattle.std.specs.Prelude.{slice_get}
use Rattle.std.proofs.lemmas.Option.{slice_get_within}
use Rattle.ix_base.specs.declared.fault.Fault.{Fault}
use Rattle.ix_base.specs.Reading.{◌>>=◌ as ◌>>=?◌}
use Rattle.index_model.specs.Machine.{JobPlace, job_at, Output, State, End, Going, Stopped, Refused, is_going, is_stopped}
use Rattle.index_model.specs.MachineEvents.{next_job, is_running, with_output}
use Rattle.index_model.specs.Outputs.{Made}
use Rattle.index_model.specs.Parts.{parts, fault_at_end}
use Rattle.stage_core.specs.declared.build.Build.{Build}
use Rattle.stage_core.specs.declared.task.Task.{Task}
use Rattle.stage_core.specs.Build.{Fits, IsOpen, subject_of, plan_of_build, drawn_on}
use Rattle.stage_core.specs.Inputs.{handed}
use Rattle.stage_core.specs.Stopping.{stopped_if}
use Rattle.stage_core.specs.Tasks.{task_seen}
use Rattle.stage_core.proofs.StateLaws.{same_input, all_same, same_stock, runs, goes_on}

not_refused : (a : Build) (place : JobPlace) → Fits a → is_running a.progress place ≡ true → (f : Fault) → a.progress.end ≡ Refused f → ⊥
not_refused a place fits running f is = let whole = fits.whole f is in let some = (runs a.progress place running).unfinished in cc

-- ---- jobs go on

module _ (a : Build) (place : JobPlace) (o : Output Made) (fits : Fits a) (running : is_running a.progress place ≡ true) where
  abbrev t : State Made
  t = a.progress

  abbrev u : State Made
  u = with_output t place.number o

  size : length u.brought ≡ length t.brought
  size = length-set t.brought place.number (Some o)

  is_open : t.end ≡ Going → IsOpen (record a { progress = u })
  is_open going = record {
    fits = record {
      tasks = λ i.
          fits.tasks i ∙
          (ap (λ (n : ℕ). option_map (handed (subject_of a) t) (cond (is_going t.end && ltb (t.drawn + i) n) (Some (record { kind = length t.closed; number = t.drawn + i })) None >>=? job_at (plan_of_build a))) (sym size) ∙
          all_same (handed (subject_of a) t) (handed (subject_of a) u) (λ job. sym (same_input (subject_of a) t t.drawn u.brought job)) (next_job (plan_of_build a) (drawn_on u i)));
      parts = fits.parts;
      slots = λ on. size ∙ fits.slots on;
      whole = λ f is. absurd (not_refused a place fits running f is);
      stock = same_stock t t.drawn u.brought t.end a.stock fits.stock;
    };
    going = ap is_going going;
    some = let within = slice_get_within t.brought place.number None (runs t place running).slot in omega (arith, size, within);
  }

  pub still_open : (memory : Bool) (v : State Made) → v ≡ stopped_if u memory → is_stopped v.end ≡ false → IsOpen (record a { progress = v })
  still_open true v is on = absurd (let e = ap (λ (s : State Made). is_stopped s.end) is in cc)
  still_open false v is on =
      let e : is_stopped t.end ≡ false = ap (λ (s : State Made). is_stopped s.end) (sym is) ∙ on in
      subst (λ (s : State Made). IsOpen (record a { progress = s })) (sym is) (is_open (goes_on t.end (not_refused a place fits running) e))

  -- ---- or the machine is stopped

  no_fault : (end : End) → ((f : Fault) → end ≡ Refused f → ⊥) → fault_at_end end ≡ None
  no_fault Going not = refl
  no_fault Stopped not = refl
  no_fault (Refused f) not = absurd (not f refl)

  stopped_is : (end : End) → is_stopped end ≡ true → end ≡ Stopped
  stopped_is Stopped e = refl
  stopped_is Going e = absurd cc
  stopped_is (Refused f) e = absurd cc

  stops_fit : (b : Build) → b.tasks.items ≡ [] → Fits (record a { progress = record u { end = Stopped }; tasks = b.tasks })
  stops_fit b none = record {
    tasks = λ i. ap (λ (ts : List Task). option_map task_seen (slice_get ts i)) none;
    parts = fits.parts ∙ ap (λ (f : Option Fault). record (parts t) { fault = f }) (no_fault t.end (not_refused a place fits running));
    slots = λ on. absurd cc;
    whole = λ f is. absurd cc;
    stock = same_stock t t.drawn u.brought Stopped a.stock fits.stock;
  }

  pub stopped_fits : (memory : Bool) (v : State Made) (b : Build) → v ≡ stopped_if u memory → is_stopped v.end ≡ true → b.tasks.items ≡ [] → Fits (record a { progress = v; tasks = b.tasks })
  stopped_fits memory v b is off none =
      let end_is : (stopped_if u memory).end ≡ Stopped = ap (λ (s : State Made). s.end) (sym is) ∙ stopped_is v.end off in
      let e : record u { end = Stopped } ≡ v = ap (λ (end : End). record u { end = end }) (sym end_is) ∙ sym is in
      subst (λ (s : State Made). Fits (record a { progress = s; tasks = b.tasks })) e (stops_fit b none)

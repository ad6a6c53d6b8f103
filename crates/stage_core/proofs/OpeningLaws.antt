-- The kind behind the open one opens.
use Rattle.std.proofs.Common.{◌≡◌, ◌<◌, ◌≤◌, ◌+◌, ℕ, true, false, ltb, List, [], ◌∷◌, ◌++◌, length, filter_map, replicate, Option, Some, None, option_map, refl, ap, sym, subst, ◌∙◌, arith, inl, inr}
use Rattle.std.specs.Prelude.{slice_get, is_none}
use Rattle.std.specs.List.{list_any}
use Rattle.std.proofs.lemmas.Bool.{cases_lt}
use Rattle.std.proofs.lemmas.Bool.Decides.{nat_tests}
use Rattle.std.proofs.lemmas.List.{length-replicate}
use Rattle.std.proofs.lemmas.Option.{slice_get_past}
use Rattle.ix_base.specs.declared.fault.Fault.{Fault}
use Rattle.index_model.specs.declared.job.Job.{Job}
use Rattle.index_model.specs.Machine.{Row, job_at, jobs_at, Output, State, End, Going, Stopped, Refused, is_going}
use Rattle.index_model.specs.MachineEvents.{next_job, made_in}
use Rattle.index_model.specs.Outputs.{Subject, Made}
use Rattle.index_model.specs.Parts.{parts}
use Rattle.stage_core.specs.declared.build.Build.{Build}
use Rattle.stage_core.specs.declared.task.Task.{Task}
use Rattle.stage_core.specs.Build.{Fits, IsOpen, OpensNext, IsStock, subject_of, plan_of_build, drawn_on}
use Rattle.stage_core.specs.Inputs.{Handed, handed}
use Rattle.stage_core.specs.Outputs.{parts_seen}
use Rattle.stage_core.specs.Tasks.{task_seen, AreTasks}

-- a kind of n jobs is open behind the closed ones, and none of them is drawn
abbrev pub fresh : List (List Made) → ℕ → State Made
fresh closed n = record { closed = closed; drawn = 0; brought = replicate n None; end = Going }

-- ---- the tasks

pub other_tasks : (tasks : List Task) (n : ℕ) (f g : ℕ → Handed) → ((i : ℕ) → f i ≡ g i) → AreTasks tasks n f → AreTasks tasks n g
other_tasks tasks n f g same are = record { all = are.all; each = λ i lt. are.each i lt ∙ ap Some (same i) }

module _ (s : Subject) (plan : List Row) (closed : List (List Made)) (n : ℕ) (job : ℕ → Job) (tasks : List Task) where
  abbrev next_of : ℕ → Option Job
  next_of i = next_job plan (drawn_on (fresh closed n) i)

  next_there : (i : ℕ) → i < n → job_at plan (record { kind = length closed; number = i }) ≡ Some (job i) → next_of i ≡ Some (job i)
  next_there i lt is =
      let here : ltb (0 + i) (length (replicate {A = Option (Output Made)} n None)) ≡ true = rw (length-replicate) (grind (arith, nat_tests)) in
      let at : 0 + i ≡ i = omega arith in
      rw here (rw at is)

  next_past : (i : ℕ) → n ≤ i → next_of i ≡ None
  next_past i le =
      let here : ltb (0 + i) (length (replicate {A = Option (Output Made)} n None)) ≡ false = rw (length-replicate) (grind (arith, nat_tests)) in
      rw here refl

  pub tasks_fit : ((i : ℕ) → i < n → job_at plan (record { kind = length closed; number = i }) ≡ Some (job i)) → AreTasks tasks n (λ i. handed s (fresh closed n) (job i)) →
      (i : ℕ) → option_map task_seen (slice_get tasks i) ≡ option_map (handed s (fresh closed n)) (next_of i)
  tasks_fit jobs are i = elim (cases_lt i n) [
    | inl lt ↦ are.each i lt ∙ ap (option_map (handed s (fresh closed n))) (sym (next_there i lt (jobs i lt)))
    | inr le ↦
        let none : slice_get tasks i ≡ None = slice_get_past tasks i (omega (arith, are.all)) in
        ap (option_map task_seen) none ∙ ap (option_map (handed s (fresh closed n))) (sym (next_past i le))
  ]

-- ---- the build

pub going_is : (end : End) → is_going end ≡ true → end ≡ Going
going_is Going e = refl
going_is Stopped e = absurd cc
going_is (Refused f) e = absurd cc

-- what is the next kind's
pub record OpensAs (s : Subject) (plan : List Row) (closed : List (List Made)) (n : ℕ) (b : Build) : Type 0 where
  pub jobs : jobs_at plan (length closed) ≡ n
  pub tasks : (i : ℕ) → option_map task_seen (slice_get b.tasks.items i) ≡ option_map (handed s (fresh closed n)) (next_job plan (drawn_on (fresh closed n) i))
  pub parts : parts_seen b.parts ≡ parts (fresh closed n)
  pub stock : IsStock (fresh closed n) b.stock

-- a build in which nothing of a kind is drawn fits
pub fits_as : (b : Build) (closed : List (List Made)) (n : ℕ) → fresh closed n ≡ b.progress → OpensAs (subject_of b) (plan_of_build b) closed n b → Fits b
fits_as b closed n e as_ = record {
  tasks = subst (λ (u : State Made). (i : ℕ) → option_map task_seen (slice_get b.tasks.items i) ≡ option_map (handed (subject_of b) u) (next_job (plan_of_build b) (drawn_on u i))) e as_.tasks;
  parts = subst (λ (u : State Made). parts_seen b.parts ≡ parts u) e as_.parts;
  slots = subst (λ (u : State Made). is_going u.end ≡ true → length u.brought ≡ jobs_at (plan_of_build b) (length u.closed)) e (λ _. length-replicate n None ∙ sym as_.jobs);
  whole = subst (λ (u : State Made). (f : Fault) → u.end ≡ Refused f → list_any is_none u.brought ≡ false) e (λ f no. absurd cc);
  stock = subst (λ (u : State Made). IsStock u b.stock) e as_.stock;
}

-- the kinds that are closed now
abbrev pub closed_now : State Made → List (List Made)
closed_now t = t.closed ++ filter_map made_in t.brought ∷ []

state_now : (t u : State Made) (n : ℕ) → is_going t.end ≡ true → u ≡ record t { closed = closed_now t; drawn = 0; brought = replicate n None } → fresh (closed_now t) n ≡ u
state_now t u n going is = sym (is ∙ ap (λ (e : End). record { closed = closed_now t; drawn = 0; brought = replicate n None; end = e }) (going_is t.end going))

pub opens_next : (a b : Build) (n : ℕ) → IsOpen a → b.progress ≡ record a.progress { closed = closed_now a.progress; drawn = 0; brought = replicate n None } →
    OpensAs (subject_of a) (plan_of_build a) (closed_now a.progress) n b → OpensNext a (record a { progress = b.progress; stock = b.stock; tasks = b.tasks; parts = b.parts })
opens_next a b n open_ is as_ =
    let closed = closed_now a.progress in
    let e : fresh closed n ≡ b.progress = state_now a.progress b.progress n open_.going is in
    record {
      state = sym e ∙ ap (fresh closed) (sym as_.jobs);
      same = record { file = refl; runs = refl; cache = refl };
      fits = fits_as (record a { progress = b.progress; stock = b.stock; tasks = b.tasks; parts = b.parts }) closed n e (record { jobs = as_.jobs; tasks = as_.tasks; parts = as_.parts; stock = as_.stock });
    }

use Rattle.std.proofs.Common.{◌≡◌, ◌+◌, ℕ, suc, true, List, [], ◌∷◌, Some, None, option_map, length, drop, refl, ap, sym, ◌∙◌, arith}
use Rattle.std.specs.Prelude.{slice_get}
use Rattle.index_model.specs.Machine.{State}
use Rattle.index_model.specs.MachineEvents.{has_next, next_job}
use Rattle.index_model.specs.Outputs.{Made}
use Rattle.stage_core.specs.declared.build.Build.{Build}
use Rattle.stage_core.specs.declared.task.Task.{Task}
use Rattle.stage_core.specs.Build.{Fits, subject_of, plan_of_build, drawn_on}
use Rattle.stage_core.specs.Inputs.{handed}
use Rattle.stage_core.specs.Tasks.{task_seen}
use Rattle.stage_core.proofs.StateLaws.{no_more_drawn, next_is_some, next_is_none, next_within, draws, draws_nothing, same_input, all_same, same_stock}
use Rattle.stage_core.proofs.build.Build.draw.Goals as goal

-- the first of the tasks that are left
first_task : (b : Build) → Fits b → option_map task_seen (slice_get b.tasks.items 0) ≡ option_map (handed (subject_of b) b.progress) (next_job (plan_of_build b) b.progress)
first_task b fits = fits.tasks 0 ∙ ap (λ (t : State Made). option_map (handed (subject_of b) b.progress) (next_job (plan_of_build b) t)) (no_more_drawn b.progress)

some_task : (b : Build) → Fits b → (task : Task) (rest : List Task) → b.tasks.items ≡ task ∷ rest → option_map (handed (subject_of b) b.progress) (next_job (plan_of_build b) b.progress) ≡ Some (task_seen task)
some_task b fits task rest is = sym (first_task b fits) ∙ ap (λ (ts : List Task). option_map task_seen (slice_get ts 0)) is

goes_on : (b : Build) → Fits b → (task : Task) (rest : List Task) → b.tasks.items ≡ task ∷ rest → has_next b.progress ≡ true
goes_on b fits task rest is = next_is_some (handed (subject_of b) b.progress) (plan_of_build b) b.progress (task_seen task) (some_task b fits task rest is)

ends : (b : Build) → Fits b → b.tasks.items ≡ [] → option_map (handed (subject_of b) b.progress) (next_job (plan_of_build b) b.progress) ≡ None
ends b fits is = sym (first_task b fits) ∙ ap (λ (ts : List Task). option_map task_seen (slice_get ts 0)) is

later_tasks : (b : Build) → Fits b → (task : Task) (rest : List Task) → b.tasks.items ≡ task ∷ rest → (i : ℕ) →
    let next : State Made = record b.progress { drawn = suc b.progress.drawn } in
    option_map task_seen (slice_get rest i) ≡ option_map (handed (subject_of b) next) (next_job (plan_of_build b) (drawn_on next i))
later_tasks b fits task rest is i =
    let t : State Made = b.progress in
    let s = subject_of b in
    let plan = plan_of_build b in
    let moved : t.drawn + suc i ≡ suc t.drawn + i = omega arith in
    ap (λ (ts : List Task). option_map task_seen (slice_get ts (suc i))) (sym is) ∙ (fits.tasks (suc i) ∙
    (ap (λ (d : ℕ). option_map (handed s t) (next_job plan (record t { drawn = d }))) moved ∙
    all_same (handed s t) (handed s (record t { drawn = suc t.drawn })) (λ job. sym (same_input s t (suc t.drawn) t.brought job)) (next_job plan (record t { drawn = suc t.drawn + i }))))

none_left : (tasks : List Task) → tasks ≡ drop 1 tasks → tasks ≡ []
none_left [] e = refl
none_left (task ∷ rest) e = absurd (omega (arith, ap length e))

pub returns-in_err-task-clause-state : goal.returns-in_err-task-clause-state
returns-in_err-task-clause-state c =
    let b : Build = c.args.self.now in
    let none : b.tasks.items ≡ [] = none_left b.tasks.items (c.in_err-task.ensures.items ∙ c.in_err-task.ensures.rest) in
    draws_nothing b.progress (next_is_none (handed (subject_of b) b.progress) (plan_of_build b) b.progress c.requires.slots (ends b c.requires none))

pub returns-in_err-task-clause-task : goal.returns-in_err-task-clause-task
returns-in_err-task-clause-task c =
    let b : Build = c.args.self.now in
    let none : b.tasks.items ≡ [] = none_left b.tasks.items (c.in_err-task.ensures.items ∙ c.in_err-task.ensures.rest) in
    ap (option_map task_seen) c.from_residual.ensures ∙ sym (ends b c.requires none)

pub draw-requires : goal.draw-requires
draw-requires c = next_within c.args.self.now.progress (goes_on c.args.self.now c.requires c.in_ok-task.task c.pop_front.new.self.items c.in_ok-task.ensures.items)

pub returns-clause-state : goal.returns-clause-state
returns-clause-state c =
    let b : Build = c.args.self.now in
    c.draw.ensures ∙ draws b.progress (goes_on b c.requires c.in_ok-task.task c.pop_front.new.self.items c.in_ok-task.ensures.items)

pub returns-clause-task : goal.returns-clause-task
returns-clause-task c = sym (some_task c.args.self.now c.requires c.in_ok-task.task c.pop_front.new.self.items c.in_ok-task.ensures.items)

pub returns-clause-fits : goal.returns-clause-fits
returns-clause-fits c =
    let b : Build = c.args.self.now in
    rw c.draw.ensures (record {
      tasks = later_tasks b c.requires c.in_ok-task.task c.pop_front.new.self.items c.in_ok-task.ensures.items;
      parts = c.requires.parts;
      slots = c.requires.slots;
      whole = c.requires.whole;
      stock = same_stock b.progress (suc b.progress.drawn) b.progress.brought b.progress.end b.stock c.requires.stock;
    })

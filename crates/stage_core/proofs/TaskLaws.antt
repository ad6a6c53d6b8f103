-- Tasks that are added one by one.
use Rattle.std.proofs.Common.{◌≡◌, ◌+◌, ℕ, List, [], ◌∷◌, ◌++◌, length, Some, option_map, refl, ap, sym, ◌∙◌, arith, length-append}
use Rattle.std.proofs.Common.{inl, inr}
use Rattle.std.proofs.lemmas.Bool.{cases_lt}
use Rattle.std.specs.Prelude.{slice_get}
use Rattle.stage_core.specs.declared.task.Task.{Task}
use Rattle.stage_core.specs.Inputs.{Handed}
use Rattle.stage_core.specs.Tasks.{task_seen, AreTasks}
use Rattle.stage_core.proofs.ListLaws.{get_in_front, get_behind}

pub no_tasks : (f : ℕ → Handed) → AreTasks [] 0 f
no_tasks f = record { all = refl; each = λ i lt. absurd (omega (arith, lt)) }

pub one_more_task : (tasks : List Task) (n : ℕ) (t : Task) (f : ℕ → Handed) → AreTasks tasks n f → task_seen t ≡ f n → AreTasks (tasks ++ t ∷ []) (n + 1) f
one_more_task tasks n t f are is = record {
  all = omega (arith, length-append tasks (t ∷ []), are.all);
  each = λ i lt. elim (cases_lt i n) [
    | inl below ↦ ap (option_map task_seen) (get_in_front tasks (t ∷ []) i (omega (arith, are.all))) ∙ are.each i below
    | inr behind ↦
        let e : i ≡ length tasks = omega (arith, are.all) in
        let n_is : i ≡ n = omega arith in
        ap (option_map task_seen) (ap (λ (k : ℕ). slice_get (tasks ++ t ∷ []) k) e ∙ get_behind tasks [] t) ∙ ap Some (is ∙ ap f (sym n_is))
  ];
}

pub one_task : (tasks : List Task) (t : Task) → tasks ≡ t ∷ [] → AreTasks tasks 1 (λ _. task_seen t)
one_task tasks t is = rw is (one_more_task [] 0 t (λ _. task_seen t) (no_tasks (λ _. task_seen t)) refl)

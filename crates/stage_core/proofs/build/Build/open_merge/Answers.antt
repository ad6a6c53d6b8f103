use Rattle.std.proofs.Common.{◌≡◌, List, [], ◌∷◌, ◌++◌, Option, filter_map, ap, ◌∙◌, arith, length-append, sym, subst}
use Rattle.index_model.specs.Machine.{Output as OutputOf}
use Rattle.index_model.specs.MachineEvents.{made_in}
use Rattle.index_model.specs.Outputs.{Made}
use Rattle.index_model.specs.declared.entry.Entry.{Entry}
use Rattle.index_model.specs.declared.job.Job.TheVariants.{Merge}
use Rattle.stage_core.specs.declared.output.Output.{Output}
use Rattle.stage_core.specs.declared.task.Task.{Task}
use Rattle.stage_core.specs.declared.task.Task.TheVariants as tasks
use Rattle.stage_core.specs.Inputs.{RunsOf, run_in}
use Rattle.stage_core.proofs.TaskLaws.{one_task}
use Rattle.stage_core.proofs.OpeningLaws.{other_tasks}
use Rattle.stage_core.specs.declared.build.Build.{Build}
use Rattle.stage_core.specs.declared.stock.Stock.TheVariants as stocks
use Rattle.stage_core.specs.Build.{subject_of, OpensNext}
use Rattle.stage_core.specs.Slots.{made_of_slots}
use Rattle.stage_core.proofs.OpeningLaws.{opens_next}
use Rattle.stage_core.proofs.KindLaws.{parts_going, merge_opens}
use Rattle.stage_core.proofs.build.Build.open_merge.Goals as goal

pub returns-clause-opens : goal.returns-clause-opens
returns-clause-opens c =
    let a : Build = c.args.self.now in
    let ms : List Made = filter_map made_in a.progress.brought in
    let made : made_of_slots c.brought.result.now ≡ ms = ap (λ (bs : List (Option (OutputOf Made))). filter_map made_in bs) c.brought.ensures in
    let b : Build = record { file = a.file; runs = a.runs; cache = a.cache; progress = c.close.new.self; stock = stocks.Merge; tasks = c.place_task.new.tasks; parts = a.parts } in
    let moved : c.move_runs.new.runs.items ≡ filter_map run_in ms =
    c.move_runs.ensures ∙ (ap (λ (rs : List (List Entry)). rs ++ filter_map run_in (made_of_slots c.deref_mut.result.now)) c.in_ok-runs.ensures.items ∙
    (ap (λ (slots : List (Option Output)). filter_map run_in (made_of_slots slots)) c.deref_mut.ensures.value ∙
    ap (λ (bs : List (Option (OutputOf Made))). filter_map run_in (filter_map made_in bs)) c.in_ok-brought.ensures.brought)) in
    let task : Task = tasks.Merge c.move_runs.new.runs in
    let only =
    other_tasks c.place_task.new.tasks.items 1 _ (λ _. record { job = Merge; given = RunsOf (filter_map run_in ms) }) (λ i. ap (λ (rs : List (List Entry)). record { job = Merge; given = RunsOf rs }) moved)
    (one_task c.place_task.new.tasks.items task (c.place_task.ensures.placed ∙ ap (λ (ts : List Task). ts ++ task ∷ []) c.in_ok-tasks.ensures.items)) in
    subst (OpensNext a) (sym c.begin.ensures) (opens_next a b 1 c.requires.open c.in_ok-brought.ensures.closed (merge_opens (subject_of a) a.runs ms b a.progress.closed c.requires.kind only (c.requires.open.fits.parts ∙ parts_going a.progress c.requires.open.going) (omega (arith, length-append a.progress.closed (ms ∷ []), c.requires.kind))))

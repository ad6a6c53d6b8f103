use Rattle.std.proofs.Common.{◌≡◌, List, [], ◌∷◌, Option, filter_map, option_map, ap, ◌∙◌, arith, length-append, sym, subst}
use Rattle.std.specs.Prelude.{slice_get}
use Rattle.index_model.specs.Machine.{Output}
use Rattle.index_model.specs.MachineEvents.{made_in}
use Rattle.index_model.specs.Outputs.{Made}
use Rattle.index_model.specs.Parts.{Parts, parts, table_in}
use Rattle.std.specs.Arc.{arc_value}
use Rattle.index_model.specs.declared.entry.Entry.{Entry}
use Rattle.index_model.specs.declared.job.Job.TheVariants.{Write}
use Rattle.stage_core.specs.Inputs.{PublishedOf}
use Rattle.stage_core.proofs.OpeningLaws.{other_tasks}
use Rattle.stage_core.proofs.KindLaws.{going}
use Rattle.stage_core.specs.declared.build.Build.{Build}
use Rattle.stage_core.specs.declared.stock.Stock.TheVariants as stocks
use Rattle.stage_core.specs.Build.{subject_of, OpensNext}
use Rattle.stage_core.specs.Outputs.{parts_seen}
use Rattle.stage_core.specs.Slots.{made_of_slots}
use Rattle.stage_core.proofs.OpeningLaws.{opens_next}
use Rattle.stage_core.proofs.KindLaws.{parts_going, write_opens}
use Rattle.stage_core.proofs.build.Build.open_write.Goals as goal

pub returns-clause-opens : goal.returns-clause-opens
returns-clause-opens c =
    let a : Build = c.args.self.now in
    let ms : List Made = filter_map made_in a.progress.brought in
    let made : made_of_slots c.brought.result.now ≡ ms = ap (λ (bs : List (Option (Output Made))). filter_map made_in bs) c.brought.ensures in
    let b : Build = record { file = a.file; runs = a.runs; cache = a.cache; progress = c.shut.new.self; stock = stocks.Write; tasks = c.in_ok-tasks.tasks; parts = record a.parts { table = c.in_ok-table.table } } in
    let new : Parts = record (parts (going a.progress.closed)) { table = table_in (slice_get ms 0) } in
    let table : option_map arc_value c.in_ok-table.table ≡ table_in (slice_get ms 0) = c.in_ok-table.ensures ∙ ap (λ (xs : List Made). table_in (slice_get xs 0)) made in
    let before = c.requires.open.fits.parts ∙ parts_going a.progress c.requires.open.going in
    let published =
    ap (λ (o : Option (List Entry)). record (parts_seen a.parts) { table = o }) table ∙
    ap (λ (p : Parts). record p { table = table_in (slice_get ms 0) }) before in
    let tasks =
    other_tasks c.in_ok-tasks.tasks.items 1 _ (λ _. record { job = Write; given = PublishedOf new a.cache }) (λ i. ap (λ (p : Parts). record { job = Write; given = PublishedOf p a.cache }) published)
    c.in_ok-tasks.ensures in
    subst (OpensNext a) (sym c.begin.ensures) (opens_next a b 1 c.requires.open c.in_ok-shut.ensures.closed (write_opens (subject_of a) a.runs ms b a.progress.closed c.requires.kind tasks published (omega (arith, length-append a.progress.closed (ms ∷ []), c.requires.kind))))

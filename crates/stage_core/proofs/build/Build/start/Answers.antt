use Rattle.std.proofs.Common.{◌≡◌, ℕ, List, [], length, refl, sym, ◌∙◌}
use Rattle.std.specs.List.{enumerate_from}
use Rattle.std.proofs.lemmas.List.FromFn.{length-enumerate_from}
use Rattle.index_model.specs.declared.job.Job.TheVariants.{Scan}
use Rattle.index_model.specs.declared.unit.Unit.{Unit as UnitHeader}
use Rattle.index_model.specs.Machine.{plan_for}
use Rattle.stage_core.specs.declared.build.Build.{Build}
use Rattle.stage_core.specs.declared.stock.Stock.TheVariants as stocks
use Rattle.stage_core.specs.Build.{subject_of}
use Rattle.stage_core.specs.Cut.{units_in}
use Rattle.stage_core.proofs.OpeningLaws.{tasks_fit, fits_as}
use Rattle.stage_core.proofs.build.Build.start.Goals as goal

pub returns-clause-fits : goal.returns-clause-fits
returns-clause-fits c =
    let b : Build = record { file = c.args.file; runs = c.args.runs; cache = c.args.cache; progress = c.in_ok-progress.progress; stock = stocks.Scan; tasks = c.in_ok-tasks.tasks; parts = c.none.result } in
    let us : List (ℕ × UnitHeader) = enumerate_from 0 (units_in c.args.file.now) in
    let all : length us ≡ c.args.units = length-enumerate_from 0 (units_in c.args.file.now) ∙ c.requires in
    fits_as b [] c.args.runs (sym c.in_ok-progress.ensures) (record {
      jobs = refl;
      tasks = tasks_fit (subject_of b) (plan_for c.args.runs) [] c.args.runs (λ k. Scan k) b.tasks.items (λ i lt. refl) (c.in_ok-tasks.ensures us all);
      parts = c.none.ensures;
      stock = refl;
    })

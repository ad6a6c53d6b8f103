use Rattle.std.proofs.Common.{◌≡◌, List, Some, None, Ok, sym, ap, subst, ◌∙◌}
use Rattle.std.proofs.lemmas.Result.{err_from_is_err_and}
use Rattle.index_model.specs.Gives.{StopsAs}
use Rattle.index_model.specs.Meaning.{at_place}
use Rattle.index_model.specs.Sections.{Section}
use Rattle.reach_model.specs.LineTables.{files_at, files_of}
use Rattle.line_files.specs.Places.{files_by, place_of}
use Rattle.line_files.proofs.ProgramLaws.{no_place, place_fault, place_found, unit_files}
use Rattle.line_files.proofs.unit_files.table.Goals as goal

pub returns-in_err-place : goal.returns-in_err-place
returns-in_err-place c b is w at =
    let im = c.args.image.now in
    let u = c.unit_at-start.result in
    let files : files_of b.program.sections w ≡ files_by im.sections (c.args.unit, u) = unit_files im c.unit_at-start.ensures.of_file b is c.args.unit w u at c.unit_at-start.ensures.value in
    let stop = c.in_err-place.field-0.0 in
    let stops = place_fault im.sections (c.args.unit, u) stop (c.in_err-place.ensures.value u c.unit_at-start.ensures.value) in
    let p = err_from_is_err_and c.from_residual.result c.from_residual.ensures.1 in
    rw (p.1, p.2) (subst (StopsAs stop) (sym files) stops)

pub returns-in-Some : goal.returns-in-Some
returns-in-Some c b is w at =
    let im = c.args.image.now in
    let u = c.unit_at-start.result in
    let files : files_of b.program.sections w ≡ files_by im.sections (c.args.unit, u) = unit_files im c.unit_at-start.ensures.of_file b is c.args.unit w u at c.unit_at-start.ensures.value in
    let place : place_of im.sections (c.args.unit, u) ≡ Ok (Some c.in-Some.place) = rw (← c.in-Some.is) (c.in_ok-place.ensures.value u c.unit_at-start.ensures.value) in
    let all = files ∙ place_found im.sections (c.args.unit, u) c.in-Some.place place ∙ ap (λ (ss : List Section). at_place u.start (files_at ss c.in-Some.place)) (sym c.sections.ensures.value) ∙ c.in_ok-open-in-Some.ensures in
    rw all c.all_files.ensures

pub returns-in_err-open-in-Some : goal.returns-in_err-open-in-Some
returns-in_err-open-in-Some c b is w at =
    let im = c.args.image.now in
    let u = c.unit_at-start.result in
    let files : files_of b.program.sections w ≡ files_by im.sections (c.args.unit, u) = unit_files im c.unit_at-start.ensures.of_file b is c.args.unit w u at c.unit_at-start.ensures.value in
    let place : place_of im.sections (c.args.unit, u) ≡ Ok (Some c.in-Some.place) = rw (← c.in-Some.is) (c.in_ok-place.ensures.value u c.unit_at-start.ensures.value) in
    let all = files ∙ place_found im.sections (c.args.unit, u) c.in-Some.place place ∙ ap (λ (ss : List Section). at_place u.start (files_at ss c.in-Some.place)) (sym c.sections.ensures.value) ∙ c.in_err-open-in-Some.ensures in
    let p = err_from_is_err_and c.from_residual-in_err-open-in-Some.result c.from_residual-in_err-open-in-Some.ensures.1 in
    rw (p.1, p.2) all

pub returns : goal.returns
returns c b is w at =
    let im = c.args.image.now in
    let u = c.unit_at-start.result in
    let files : files_of b.program.sections w ≡ files_by im.sections (c.args.unit, u) = unit_files im c.unit_at-start.ensures.of_file b is c.args.unit w u at c.unit_at-start.ensures.value in
    let place : place_of im.sections (c.args.unit, u) ≡ Ok None = rw (← c.in-None.is) (c.in_ok-place.ensures.value u c.unit_at-start.ensures.value) in
    rw c.new.ensures.items (files ∙ no_place im.sections (c.args.unit, u) place)

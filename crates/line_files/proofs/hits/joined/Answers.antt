use Rattle.std.proofs.Common.{◌≡◌, ◌++◌, List, length, ap, sym, subst, ◌∙◌, arith}
use Rattle.std.proofs.lemmas.List.{map-append}
use Rattle.std.proofs.lemmas.Result.{err_from_is_err_and}
use Rattle.index_model.specs.Gives.{StopsAs}
use Rattle.file_image.specs.Front.{with_front}
use Rattle.reach_model.specs.LineTables as meant
use Rattle.line_files.specs.Found.{hit_seen, hits_seen}
use Rattle.line_files.specs.Runs.{all_joined}
use Rattle.line_files.proofs.CutLaws.{front_of_none, no_part, part_added, part_stops}
use Rattle.line_files.proofs.hits.joined.Goals as goal

pub runs-init : goal.runs-init
runs-init c ms h = (ms, rw c.into_iter-run-iterator.ensures.into_iter_gives.0 h, rw c.new-hits.ensures.items (front_of_none (all_joined ms)))

pub returns-in_err-run : goal.returns-in_err-run
returns-in_err-run c ms h =
    let left = c.runs.invariant ms h in
    let is = (rw c.in_err-run.was at c.in-Some.ensures.steps).0 in
    let stops = part_stops (hits_seen c.runs.hits.items) c.next.new.self.rest.items c.runs.run-iterator.rest.items c.in_err-run.field-0.0 left.0 is left.1 in
    let p = err_from_is_err_and c.from_residual.result c.from_residual.ensures.1 in
    rw (p.1, p.2) (subst (StopsAs c.in_err-run.field-0.0) left.2 stops)

pub runs-preserved : goal.runs-preserved
runs-preserved c ms h =
    let left = c.runs.invariant ms h in
    let is = (rw c.in_ok-run.was at c.in-Some.ensures.steps).0 in
    let added = part_added (hits_seen c.runs.hits.items) c.next.new.self.rest.items c.runs.run-iterator.rest.items c.in_ok-run.field-0 left.0 is left.1 in
    let hits : hits_seen c.append.new.self.items ≡ hits_seen c.runs.hits.items ++ hits_seen c.in_ok-run.field-0.items = ap hits_seen c.in_ok-append.ensures.items ∙ map-append hit_seen c.runs.hits.items c.in_ok-run.field-0.items in
    (added.0, added.1, ap (λ (hs : List meant.FileHit). with_front hs (all_joined added.0)) hits ∙ sym added.2 ∙ left.2)

pub returns : goal.returns
returns c ms h =
    let left = c.runs.invariant ms h in
    let none : length c.runs.run-iterator.rest.items ≡ 0 = omega (arith, c.in-None.ensures.steps.0, c.runs.run-iterator.rest.ok.0) in
    sym left.2 ∙ no_part (hits_seen c.runs.hits.items) c.runs.run-iterator.rest.items left.0 none left.1

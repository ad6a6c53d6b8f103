use Rattle.std.proofs.Common.{List, ap, ◌∙◌, rules, of_calls}
use Rattle.std.specs.Prelude.{codes}
use Rattle.std.proofs.lemmas.List.Sorted.{IsNonDecreasingBy-from_sort_by_key}
use Rattle.std.proofs.lemmas.Result.{err_from_is_err_and}
use Rattle.index_model.specs.declared.range.UnitRange.{UnitRange}
use Rattle.index_model.specs.Sections.{Section, section_bytes}
use Rattle.aranges_read.proofs.UnitsRise.{image_rises}
use Rattle.aranges_read.proofs.MapOfSets.{stops_as, map_is}
use Rattle.aranges_read.proofs.table.read.Goals as goal

pub ranges_of_sets-requires-clause-rise : goal.ranges_of_sets-requires-clause-rise
ranges_of_sets-requires-clause-rise c = rw c.units.ensures.value (image_rises c.args.image.now.file c.args.image.now c.units.ensures.of_file)

pub returns-in_err-ranges : goal.returns-in_err-ranges
returns-in_err-ranges c =
    let p = err_from_is_err_and c.from_residual.result c.from_residual.ensures.1 in
    rw (p.1, p.2) (stops_as c.args.image.now.sections c.args.image.now.units c.units.result.now c.units.ensures.value c.get-bytes.result.now (c.get-bytes.ensures.value ∙ ap (λ (ss : List Section). section_bytes ss (codes ".debug_aranges")) c.sections.ensures.value) c.in_err-ranges.field-0.0 c.in_err-ranges.ensures)

pub returns : goal.returns
returns c =
    let e = c.in_ok-sort_by_key.ensures in
    let up = IsNonDecreasingBy-from_sort_by_key (λ (u : UnitRange). u.unit) _ e.sorted (λ a r q k. search (rules, of_calls)) in
    map_is c.args.image.now.sections c.args.image.now.units c.units.result.now c.units.ensures.value c.get-bytes.result.now (c.get-bytes.ensures.value ∙ ap (λ (ss : List Section). section_bytes ss (codes ".debug_aranges")) c.sections.ensures.value) c.in_ok-ranges.ranges.items c.sort_by_key.new.self.items c.in_ok-build.field-0 c.in_ok-ranges.ensures e.permutation up (rw c.deref.ensures.value at c.in_ok-build.ensures.pieces)

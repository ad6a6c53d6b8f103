use Rattle.std.proofs.lemmas.Result.{err_from_is_err_and}
use Rattle.file_image.proofs.Images.{at_sections, at_units, opened}
use Rattle.file_image.proofs.image.Image.open.Goals as goal

pub returns-in_err-sections : goal.returns-in_err-sections
returns-in_err-sections c =
    let p = err_from_is_err_and c.from_residual.result c.from_residual.ensures.1 in
    rw (p.1, p.2) (at_sections c.args.file.now c.in_err-sections.field-0.0 c.in_err-sections.ensures)

pub returns-in_err-units : goal.returns-in_err-units
returns-in_err-units c =
    let p = err_from_is_err_and c.from_residual-in_err-units.result c.from_residual-in_err-units.ensures.1 in
    rw (p.1, p.2) (at_units c.args.file.now c.in_ok-sections.sections c.in_ok-sections.ensures c.in_err-units.field-0.0 c.in_err-units.ensures.value)

pub returns : goal.returns
returns c = opened c.args.file.now c.in_ok-sections.sections c.in_ok-sections.ensures c.in_ok-units.units.items c.in_ok-units.ensures.value

pub invariant_of-result : goal.invariant_of-result
invariant_of-result c = record {
  of_file = opened c.args.file.now c.in_ok-sections.sections c.in_ok-sections.ensures c.in_ok-units.units.items c.in_ok-units.ensures.value;
  of_info = c.debug_info.ensures.value;
  of_types = c.get.ensures.value;
  small_info = c.debug_info.ensures.small;
  small_types = c.get.ensures.small;
  inside = rw (c.debug_info.ensures.value, c.get.ensures.value) c.in_ok-units.ensures.inside;
  few = c.in_ok-units.ensures.few;
}

use Rattle.std.proofs.Common.{length, refl}
use Rattle.std.proofs.lemmas.Result.{err_from_is_err_and}
use Rattle.file_image.proofs.Both.{at_first, at_second, at_end}
use Rattle.file_image.proofs.tile.units.Goals as goal

pub returns-in_err-add_units-clause-value : goal.returns-in_err-add_units-clause-value
returns-in_err-add_units-clause-value c =
    let p = err_from_is_err_and c.from_residual.result c.from_residual.ensures.1 in
    rw (p.1, p.2) (at_first c.args.sections.now c.debug_info-info.result.now c.get-types.result.now c.debug_info-info.ensures.value c.get-types.ensures.value c.in_err-add_units.field-0.0 (rw c.new-units.ensures.items at c.in_err-add_units.ensures.value))

pub returns-in_err-add_units-2-clause-value : goal.returns-in_err-add_units-2-clause-value
returns-in_err-add_units-2-clause-value c =
    let p = err_from_is_err_and c.from_residual-in_err-add_units-2.result c.from_residual-in_err-add_units-2.ensures.1 in
    rw (p.1, p.2) (at_second c.args.sections.now c.debug_info-info.result.now c.get-types.result.now c.debug_info-info.ensures.value c.get-types.ensures.value c.add_units.new.units.items (rw c.new-units.ensures.items at c.in_ok-add_units.ensures.value) c.in_err-add_units-2.field-0.0 c.in_err-add_units-2.ensures.value)

pub returns-clause-value : goal.returns-clause-value
returns-clause-value c = at_end c.args.sections.now c.debug_info-info.result.now c.get-types.result.now c.debug_info-info.ensures.value c.get-types.ensures.value c.add_units.new.units.items (rw c.new-units.ensures.items at c.in_ok-add_units.ensures.value) c.add_units-2.new.units.items c.in_ok-add_units-2.ensures.value

pub returns-clause-inside : goal.returns-clause-inside
returns-clause-inside c =
    let info = length c.debug_info-info.result.now in
    let types = length c.get-types.result.now in
    rw (← c.debug_info-info.ensures.value, ← c.get-types.ensures.value) (c.in_ok-add_units-2.ensures.inside info types refl refl (c.in_ok-add_units.ensures.inside info types refl refl (rw c.new-units.ensures.items tt)))

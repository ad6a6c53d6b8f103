use Rattle.std.proofs.Common.{ℕ, List, ◌++◌, ap, ◌∙◌}
use Rattle.std.specs.Prelude.{flat_map}
use Rattle.common_laws.proofs.Appended.{no_part, more_parts, all_parts}
use Rattle.gdbindex_write.specs.Units.{types_bytes}
use Rattle.gdbindex_write.proofs.UnitLaws.{no_unit, types_list_is}
use Rattle.gdbindex_write.proofs.units.put_types_list.Goals as goal

pub loop-unit-init : goal.loop-unit-init
loop-unit-init c = no_part (types_bytes c.info_length-info.result) c.args.units.now c.args.out.now.items

pub loop-unit-preserved : goal.loop-unit-preserved
loop-unit-preserved c = more_parts (types_bytes c.info_length-info.result) c.args.units.now c.loop-unit.unit-index no_unit c.args.out.now.items c.loop-unit-test.true c.loop-unit.invariant c.in_ok-put_type_unit.ensures

pub returns : goal.returns
returns c =
    let units = c.args.units.now in
    all_parts (types_bytes c.info_length-info.result) units c.loop-unit.unit-index c.args.out.now.items c.loop-unit-test.false c.loop-unit.invariant
    ∙ ap (λ (w : List ℕ). c.args.out.now.items ++ w) (ap (λ (n : ℕ). flat_map (types_bytes n) units) c.info_length-info.ensures ∙ types_list_is units)

use Rattle.std.proofs.Common.{◌≡◌, ℕ, true, false, List, length, map, refl, sym, ap, ◌∙◌, arith}
use Rattle.std.proofs.lemmas.List.{take_all}
use Rattle.index_model.specs.declared.unit.Unit.{Unit as UnitHeader}
use Rattle.index_model.specs.Layout.{below}
use Rattle.index_model.specs.NameIndex.{units_of_sort}
use Rattle.debugnames_write.specs.Units.{place_at}
use Rattle.debugnames_write.proofs.UnitLaws.{place_push, count_own, count_other, one_at_most}
use Rattle.debugnames_write.proofs.units.UnitPlaces.of.Goals as goal
use Rattle.debugnames_write.proofs.units.UnitPlaces.of.Goals.{then-is_type_unit+in_ok-push, else-is_type_unit+in_ok-push-2}

pub loop-unit-preserved : goal.loop-unit-preserved
loop-unit-preserved c =
    let units = c.args.units.now in
    let i = c.loop-unit.unit-index in
    let lt = c.loop-unit-test.true in
    let inv = c.loop-unit.invariant in
    elim c.if-is_type_unit.branch [
      | then-is_type_unit+in_ok-push w ↦
          let same = sym c.is_type_unit.ensures ∙ w.if-is_type_unit.true in
          let few = one_at_most _ _ w.count_in_info-type_units.ensures in
          rw (w.places-is, w.in_ok-push.ensures.items, w.compile_units-is, w.type_units-is) (record {
            places = place_push units i _ lt true c.loop-unit.type_units c.loop-unit.places.items same inv.places inv.types;
            compile = count_other units i _ lt false c.loop-unit.compile_units _ same inv.compile refl;
            types = count_own units i _ lt true c.loop-unit.type_units _ _ same inv.types w.count_in_info-type_units.ensures refl;
            few_compile = omega (arith, inv.few_compile);
            few_types = omega (arith, inv.few_types, few);
          })
      | else-is_type_unit+in_ok-push-2 w ↦
          let same = sym c.is_type_unit.ensures ∙ w.if-is_type_unit.false in
          let few = one_at_most _ _ w.count_in_info-compile_units.ensures in
          rw (w.places-is, w.in_ok-push-2.ensures.items, w.compile_units-is, w.type_units-is) (record {
            places = place_push units i _ lt false c.loop-unit.compile_units c.loop-unit.places.items same inv.places inv.compile;
            compile = count_own units i _ lt false c.loop-unit.compile_units _ _ same inv.compile w.count_in_info-compile_units.ensures refl;
            types = count_other units i _ lt true c.loop-unit.type_units _ same inv.types refl;
            few_compile = omega (arith, inv.few_compile, few);
            few_types = omega (arith, inv.few_types);
          })
    ]

pub loop-unit-init : goal.loop-unit-init
loop-unit-init c = record { places = c.in_ok-places.ensures.items; compile = refl; types = refl; few_compile = omega arith; few_types = omega arith }

pub overflow_add-type_units : goal.overflow_add-type_units
overflow_add-type_units c = omega (arith, c.requires, c.loop-unit.invariant.few_types, c.loop-unit-test.true, one_at_most _ _ c.count_in_info-type_units.ensures)

pub overflow_add-compile_units : goal.overflow_add-compile_units
overflow_add-compile_units c = omega (arith, c.requires, c.loop-unit.invariant.few_compile, c.loop-unit-test.true, one_at_most _ _ c.count_in_info-compile_units.ensures)

pub returns : goal.returns
returns c =
    let units = c.args.units.now in
    let all : c.loop-unit.unit-index ≡ length units = omega arith in
    let front = take_all c.loop-unit.unit-index units c.loop-unit-test.false in
    let inv = c.loop-unit.invariant in
    record {
      places = inv.places ∙ ap (λ (n : ℕ). map (place_at units) (below n)) all;
      compile = inv.compile ∙ ap (λ (w : List UnitHeader). length (units_of_sort false w)) front;
      types = inv.types ∙ ap (λ (w : List UnitHeader). length (units_of_sort true w)) front;
    }

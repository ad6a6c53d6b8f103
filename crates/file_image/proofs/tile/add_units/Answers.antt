use Rattle.std.proofs.Common.{[], ◌∷◌, length-append, ◌≡◌, length, arith, ◌∙◌}
use Rattle.std.proofs.lemmas.Result.{err_from_is_err_and}
use Rattle.ix_base.specs.Reading.{input}
use Rattle.index_model.specs.Tiling.{tiles}
use Rattle.index_model.specs.Units.{next_unit}
use Rattle.file_image.specs.Front.{with_front}
use Rattle.file_image.proofs.Loops.{loop_item, loop_stop, loop_end}
use Rattle.index_model.proofs.UnitReads.{unit_advances}
use Rattle.file_image.proofs.InsideLaws.{spans_inside, inside_push}
use Rattle.file_image.proofs.tile.add_units.Goals as goal

pub returns-in_err-unit-clause-value : goal.returns-in_err-unit-clause-value
returns-in_err-unit-clause-value c =
    let some : length c.loop-cursor.cursor.rest ≡ 0 → ⊥ = λ e. omega (arith, c.loop-cursor.invariant.end) in
    let number : c.len.result ≡ length c.loop-cursor.units.items = omega (arith, c.len.ensures, c.loop-cursor.units.ok.0) in
    let p = err_from_is_err_and c.from_residual.result c.from_residual.ensures.1 in
    rw (p.1, p.2) (loop_stop (next_unit c.args.part c.args.base) (unit_advances c.args.part c.args.base) c.loop-cursor.units.items c.loop-cursor.cursor (with_front c.args.units.now.items (tiles (next_unit c.args.part c.args.base) (length c.args.units.now.items) (input c.args.bytes.now 0))) c.loop-cursor.invariant.so_far c.in_err-unit.field-0.0 some (rw number at c.in_err-unit.ensures.value))

pub loop-cursor-smaller : goal.loop-cursor-smaller
loop-cursor-smaller c = unit_advances c.args.part c.args.base c.len.result c.loop-cursor.cursor (c.in_ok-unit.unit, c.read_unit.new.cursor) c.in_ok-unit.ensures.value

pub loop-cursor-preserved : goal.loop-cursor-preserved
loop-cursor-preserved c =
    let some : length c.loop-cursor.cursor.rest ≡ 0 → ⊥ = λ e. omega (arith, c.loop-cursor.invariant.end) in
    let number : c.len.result ≡ length c.loop-cursor.units.items = omega (arith, c.len.ensures, c.loop-cursor.units.ok.0) in
    rw c.in_ok-push.ensures.items (record {
      so_far = loop_item (next_unit c.args.part c.args.base) (unit_advances c.args.part c.args.base) c.loop-cursor.units.items c.loop-cursor.cursor (with_front c.args.units.now.items (tiles (next_unit c.args.part c.args.base) (length c.args.units.now.items) (input c.args.bytes.now 0))) c.loop-cursor.invariant.so_far c.in_ok-unit.unit c.read_unit.new.cursor some (rw number at c.in_ok-unit.ensures.value);
      end = c.read_unit.ensures.place.end ∙ c.loop-cursor.invariant.end;
      few = λ before. omega (arith, c.in_ok-unit.ensures.numbered, number, length-append c.loop-cursor.units.items (c.in_ok-unit.unit ∷ []));
      inside = λ info types at size before.
          inside_push info types c.loop-cursor.units.items c.in_ok-unit.unit (c.loop-cursor.invariant.inside info types at size before)
          (spans_inside info types c.args.part c.loop-cursor.cursor.at c.read_unit.new.cursor.at c.in_ok-unit.unit (rw (← at) c.in_ok-unit.ensures.spans) (omega (arith, size, c.read_unit.ensures.place.end, c.loop-cursor.invariant.end)));
    })

pub returns-clause-value : goal.returns-clause-value
returns-clause-value c =
    let none : length c.loop-cursor.cursor.rest ≡ 0 = omega (arith, c.loop-cursor.invariant.end) in
    loop_end (next_unit c.args.part c.args.base) (unit_advances c.args.part c.args.base) c.loop-cursor.units.items c.loop-cursor.cursor (with_front c.args.units.now.items (tiles (next_unit c.args.part c.args.base) (length c.args.units.now.items) (input c.args.bytes.now 0))) c.loop-cursor.invariant.so_far none

use Rattle.std.proofs.Common.{◌≡◌, length, sym, ◌∙◌, arith}
use Rattle.std.proofs.lemmas.Result.{err_from_is_err_and}
use Rattle.aranges_read.proofs.SetSteps.{after_set, after_set_fewer, at_fault, at_sets_end}
use Rattle.aranges_read.proofs.table.ranges_of_sets.Goals as goal

pub loop-cursor-smaller : goal.loop-cursor-smaller
loop-cursor-smaller c =
    let some : length c.loop-cursor.cursor.rest ≡ 0 → ⊥ = λ e. omega (arith, c.loop-cursor.invariant.end) in
    after_set_fewer c.args.units.now c.loop-cursor.ranges.items c.loop-cursor.cursor some c.add_set.new.ranges.items c.add_set.new.cursor c.in_ok-add_set.ensures.value

pub loop-cursor-preserved : goal.loop-cursor-preserved
loop-cursor-preserved c =
    let some : length c.loop-cursor.cursor.rest ≡ 0 → ⊥ = λ e. omega (arith, c.loop-cursor.invariant.end) in
    record {
      so_far = sym (after_set c.args.units.now c.loop-cursor.ranges.items c.loop-cursor.cursor some c.add_set.new.ranges.items c.add_set.new.cursor c.in_ok-add_set.ensures.value) ∙ c.loop-cursor.invariant.so_far;
      end = c.add_set.ensures.place.end ∙ c.loop-cursor.invariant.end;
    }

pub returns-in_err-add_set : goal.returns-in_err-add_set
returns-in_err-add_set c =
    let some : length c.loop-cursor.cursor.rest ≡ 0 → ⊥ = λ e. omega (arith, c.loop-cursor.invariant.end) in
    let p = err_from_is_err_and c.from_residual.result c.from_residual.ensures.1 in
    rw (p.1, p.2, ← c.loop-cursor.invariant.so_far) (at_fault c.args.units.now c.loop-cursor.ranges.items c.loop-cursor.cursor some c.in_err-add_set.field-0.0 c.in_err-add_set.ensures.value)

pub returns : goal.returns
returns c =
    let none : length c.loop-cursor.cursor.rest ≡ 0 = omega (arith, c.loop-cursor.invariant.end) in
    sym c.loop-cursor.invariant.so_far ∙ at_sets_end c.args.units.now c.loop-cursor.ranges.items c.loop-cursor.cursor none

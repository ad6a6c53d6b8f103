use Rattle.std.proofs.Common.{◌≡◌, ◌*◌, ◌+◌, ◌-◌, get_or, Some, sym, ◌∙◌, arith}
use Rattle.std.specs.List.{position}
use Rattle.ix_base.proofs.Lebs.{is_last, no_end, is_high, begins, goes_on, stops, is_whole}
use Rattle.ix_base.proofs.leb.unsigned.Goals as goal
use Rattle.ix_base.proofs.leb.unsigned.Goals.{In_ok-last}

ends : (c : In_ok-last) → position is_last c.args.bytes.now ≡ Some c.in_ok-last.last
ends c = sym c.last_of.ensures ∙ c.in_ok-last.was

pub returns-in_err-last-clause-value : goal.returns-in_err-last-clause-value
returns-in_err-last-clause-value c = c.from_residual.ensures ∙ sym (no_end c.args.bytes.now (sym c.last_of.ensures ∙ c.in_err-last.was))

pub loop-k-init : goal.loop-k-init
loop-k-init c = record { number = rw (c.from-value.ensures) (begins c.args.bytes.now c.in_ok-last.last (ends (goal.at.loop-k-init c).In_ok-last)); fits = c.from-value.type_inv }

pub overflow_sub-low : goal.overflow_sub-low
overflow_sub-low c = omega (arith, is_high c.args.bytes.now c.in_ok-last.last (ends (goal.at.overflow_sub-low c).In_ok-last) (c.loop-k.k - 1))

pub returns-in_err-checked_mul-clause-value : goal.returns-in_err-checked_mul-clause-value
returns-in_err-checked_mul-clause-value c =
    c.from_residual-in_err-checked_mul.ensures ∙ sym (stops c.args.bytes.now c.in_ok-last.last (ends (goal.at.returns-in_err-checked_mul-clause-value c).In_ok-last) c.loop-k.k c.loop-k.value c.loop-k-test.true c.loop-k.auto.k c.loop-k.invariant.number (omega (arith, c.in_err-checked_mul.ensures)))

pub loop-k-preserved : goal.loop-k-preserved
loop-k-preserved c =
    let e : c.in_ok-value.value ≡ c.loop-k.value * 128 + (get_or c.args.bytes.now (c.loop-k.k - 1) 0 - 128) = omega (arith, c.in_ok-value.ensures, c.in_ok-checked_mul.ensures, c.from-low.ensures) in
    record { number = rw e (goes_on c.args.bytes.now c.in_ok-last.last (ends (goal.at.loop-k-preserved c).In_ok-last) c.loop-k.k c.loop-k.value c.loop-k-test.true c.loop-k.auto.k c.loop-k.invariant.number); fits = omega (arith, c.in_ok-value.ensures, c.in_ok-checked_mul.ensures) }

pub returns-clause-value : goal.returns-clause-value
returns-clause-value c =
    sym (is_whole c.args.bytes.now c.in_ok-last.last (ends (goal.at.returns-clause-value c).In_ok-last) c.loop-k.k c.loop-k.value (omega arith) c.loop-k.invariant.fits c.loop-k.invariant.number)

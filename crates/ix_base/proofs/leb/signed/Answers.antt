use Rattle.std.proofs.Common.{◌≡◌, ◌-◌, get_or, cond, ltb, Some, sym, ◌∙◌, arith, to_z, of_z, w64}
use Rattle.std.proofs.lemmas.Bool.{lt-ltb, le-ltb}
use Rattle.std.specs.Prelude.{pos, ◌+ℤ◌, ◌-ℤ◌, ◌*ℤ◌}
use Rattle.std.proofs.lemmas.Int.{ints}
use Rattle.std.specs.List.{position}
use Rattle.ix_base.proofs.Lebs.{is_last, is_high}
use Rattle.ix_base.proofs.SignedLebs.{no_end, begins, goes_on, stops}
use Rattle.ix_base.proofs.leb.signed.Goals as goal
use Rattle.ix_base.proofs.leb.signed.Goals.{In_ok-last, then-top-lt64, else-top-lt64}

ends : (c : In_ok-last) → position is_last c.args.bytes.now ≡ Some c.in_ok-last.last
ends c = sym c.last_of.ensures ∙ c.in_ok-last.was

pub returns-in_err-last-clause-value : goal.returns-in_err-last-clause-value
returns-in_err-last-clause-value c = c.from_residual.ensures ∙ sym (no_end c.args.bytes.now (sym c.last_of.ensures ∙ c.in_err-last.was))

pub loop-k-init : goal.loop-k-init
loop-k-init c =
    let b = get_or c.args.bytes.now c.in_ok-last.last 0 in
    let top : to_z w64 c.if-top-lt64.value-bits ≡ cond (ltb b 64) (pos b) (pos b -ℤ pos 128) =
    elim c.if-top-lt64.branch [
      | then-top-lt64 w ↦ rw (lt-ltb b 64 w.if-top-lt64.true) (omega (arith, ints, w.from-value.ensures))
      | else-top-lt64 w ↦ rw (le-ltb b 64 w.if-top-lt64.false) (omega (arith, ints, w.from.ensures, c.type_inv.bytes c.in_ok-last.last))
    ] in
    rw top (begins c.args.bytes.now c.in_ok-last.last (ends (goal.at.loop-k-init c).In_ok-last))

pub overflow_sub-bytes : goal.overflow_sub-bytes
overflow_sub-bytes c = omega (arith, is_high c.args.bytes.now c.in_ok-last.last (ends (goal.at.overflow_sub-bytes c).In_ok-last) (c.loop-k.k - 1))

pub returns-in_err-checked_mul-clause-value : goal.returns-in_err-checked_mul-clause-value
returns-in_err-checked_mul-clause-value c =
    c.from_residual-in_err-checked_mul.ensures ∙ sym (stops c.args.bytes.now c.in_ok-last.last (ends (goal.at.returns-in_err-checked_mul-clause-value c).In_ok-last) (λ j. omega (arith, c.type_inv.bytes j)) c.loop-k.k (to_z w64 c.loop-k.value-bits) c.loop-k-test.true c.loop-k.auto.k c.loop-k.invariant c.in_err-checked_mul.ensures)

pub loop-k-preserved : goal.loop-k-preserved
loop-k-preserved c =
    let next : to_z w64 (of_z w64 c.in_ok-value.value) ≡ pos (get_or c.args.bytes.now (c.loop-k.k - 1) 0 - 128) +ℤ (pos 128 *ℤ to_z w64 c.loop-k.value-bits) =
    omega (arith, ints, c.in_ok-value.ensures, c.in_ok-checked_mul.ensures, c.from-low.ensures, c.type_inv.bytes (c.loop-k.k - 1)) in
    rw next (goes_on c.args.bytes.now c.in_ok-last.last (ends (goal.at.loop-k-preserved c).In_ok-last) c.loop-k.k (to_z w64 c.loop-k.value-bits) c.loop-k-test.true c.loop-k.auto.k c.loop-k.invariant)

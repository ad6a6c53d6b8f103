use Rattle.std.proofs.Common.{length, sym, ◌∙◌, arith, eqb-true}
use Rattle.std.proofs.lemmas.Bool.{eqb-false}
use Rattle.query_text.proofs.HexLaws.{more_fits, empty_is_none, long_is_none, no_digit, isnt_digit, whole}
use Rattle.query_text.proofs.hex.hex_number.Goals as goal
use Rattle.query_text.proofs.hex.hex_number.Goals.{then-is_empty-via-then-is_empty, then-is_empty-via-else-is_empty+then-text-gt-MAX_DIGITS}

pub returns-then-is_empty : goal.returns-then-is_empty
returns-then-is_empty c =
    elim c.then-is_empty.branch [
      | then-is_empty-via-then-is_empty w ↦
          sym (empty_is_none c.args.text.now (eqb-true (length c.args.text.now) 0 (sym c.is_empty.ensures ∙ w.if-is_empty.true)))
      | then-is_empty-via-else-is_empty+then-text-gt-MAX_DIGITS w ↦
          sym (long_is_none c.args.text.now w.if-text-gt-MAX_DIGITS.true)
    ]

pub overflow_mul-value : goal.overflow_mul-value
overflow_mul-value c =
    omega (arith, more_fits c.loop-byte.value c.loop-byte.byte-index c.loop-byte.invariant.fits (omega (arith, c.loop-byte-test.true, c.if-text-gt-MAX_DIGITS.false)))

pub overflow_add-value : goal.overflow_add-value
overflow_add-value c =
    omega (arith, c.in_ok-value.ensures.small, more_fits c.loop-byte.value c.loop-byte.byte-index c.loop-byte.invariant.fits (omega (arith, c.loop-byte-test.true, c.if-text-gt-MAX_DIGITS.false)))

pub returns-in_err-value : goal.returns-in_err-value
returns-in_err-value c =
    c.from_residual.ensures ∙ sym (no_digit c.args.text.now c.loop-byte.byte-index c.loop-byte.value c.loop-byte-test.true (isnt_digit _ _ c.in_err-value.ensures.value) c.loop-byte.invariant.digits)

pub returns : goal.returns
returns c =
    let some = eqb-false (length c.args.text.now) 0 (sym c.is_empty.ensures ∙ c.if-is_empty.false) in
    sym (whole c.args.text.now c.loop-byte.byte-index c.loop-byte.value c.loop-byte-test.false (omega (arith, some)) (omega (arith, c.if-text-gt-MAX_DIGITS.false)) c.loop-byte.invariant.value c.loop-byte.invariant.digits)

use Rattle.std.proofs.Common.{sym, ◌∙◌, arith}
use Rattle.command_words.proofs.Digits.{positive, too_large, whole}
use Rattle.command_words.proofs.number.digits.Goals as goal

pub returns-in_err-checked_mul : goal.returns-in_err-checked_mul
returns-in_err-checked_mul c =
    c.from_residual.ensures ∙ sym (too_large c.args.text.now c.loop-byte.byte-index c.loop-byte.value c.loop-byte.invariant.value c.loop-byte-test.true (omega (arith, c.in_err-checked_mul.ensures)))

pub returns-in_err-value : goal.returns-in_err-value
returns-in_err-value c =
    c.from_residual-in_err-value.ensures ∙ sym (too_large c.args.text.now c.loop-byte.byte-index c.loop-byte.value c.loop-byte.invariant.value c.loop-byte-test.true (omega (arith, c.in_ok-checked_mul.ensures, c.in_err-value.ensures, c.from-digit.ensures)))

pub returns : goal.returns
returns c =
    sym (whole c.args.text.now c.loop-byte.byte-index c.loop-byte.value c.loop-byte.invariant.value c.loop-byte-test.false (positive c.args.text.now (sym c.is_empty.ensures ∙ c.if-is_empty.false)) c.loop-byte.invariant.fits c.loop-byte.invariant.digits)

use Rattle.std.proofs.Common.{◌≡◌, ◌+◌, ◌*◌, ◌^◌, ◌<◌, ◌≤◌, ◌∙◌, get_or, drop, sym, ap, arith}
use Rattle.std.specs.Char.{digit_value}
use Rattle.cxx_spelling.specs.Numerals.{number_of}
use Rattle.cxx_spelling.proofs.NumeralLaws.{onwards, next, all_next, too_large}
use Rattle.cxx_spelling.proofs.numerals.Base.number.Goals as goal

pub returns-in_err-checked_mul : goal.returns-in_err-checked_mul
returns-in_err-checked_mul c =
    let radix = c.radix-radix.result in
    let text = c.args.digits.now in
    let product = ap (λ r. c.loop-b.value * r) c.from-in-loop-b.ensures in
    let some : 0 < radix = omega (arith, c.radix-radix.ensures.least) in
    let large : 2 ^ 64 ≤ c.loop-b.value * radix + digit_value (get_or text c.loop-b.b-index 0) =
    omega (arith, c.in_err-checked_mul.ensures, product) in
    let none = too_large radix text c.loop-b.b-index c.loop-b.value c.loop-b.invariant.value c.loop-b-test.true some large in
    c.from_residual-in_err-checked_mul.ensures ∙ sym none ∙ ap (λ r. number_of r text) c.radix-radix.ensures.value

pub returns-in_err-value : goal.returns-in_err-value
returns-in_err-value c =
    let radix = c.radix-radix.result in
    let text = c.args.digits.now in
    let product = ap (λ r. c.loop-b.value * r) c.from-in-loop-b.ensures in
    let digit = ap digit_value c.from.ensures in
    let some : 0 < radix = omega (arith, c.radix-radix.ensures.least) in
    let large : 2 ^ 64 ≤ c.loop-b.value * radix + digit_value (get_or text c.loop-b.b-index 0) =
    omega (arith, product, digit, c.in_ok-checked_mul.ensures, c.in_err-value.ensures, c.from-in-loop-b-2.ensures, c.in_ok-digit.ensures.value) in
    let none = too_large radix text c.loop-b.b-index c.loop-b.value c.loop-b.invariant.value c.loop-b-test.true some large in
    c.from_residual-in_err-value.ensures ∙ sym none ∙ ap (λ r. number_of r text) c.radix-radix.ensures.value

pub loop-b-preserved : goal.loop-b-preserved
loop-b-preserved c =
    let radix = c.radix-radix.result in
    let text = c.args.digits.now in
    let i = c.loop-b.b-index in
    let before = c.loop-b.invariant in
    let product = ap (λ r. c.loop-b.value * r) c.from-in-loop-b.ensures in
    let digit = ap digit_value c.from.ensures in
    let step : c.in_ok-value.value ≡ c.loop-b.value * radix + digit_value (get_or text i 0) =
    omega (arith, product, digit, c.in_ok-checked_mul.ensures, c.in_ok-value.ensures, c.from-in-loop-b-2.ensures, c.in_ok-digit.ensures.value) in
    let below : digit_value (get_or text i 0) < radix = omega (arith, digit, c.in_ok-digit.ensures.value) in
    record {
      value = ap (λ v. onwards radix v (drop (i + 1) text)) step ∙ next radix text i c.loop-b.value before.value c.loop-b-test.true;
      digits = all_next radix text i c.loop-b.value before.value c.loop-b-test.true below before.digits;
      fits = omega (arith, c.in_ok-value.ensures);
    }

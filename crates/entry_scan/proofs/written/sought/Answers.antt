use Rattle.std.proofs.Common.{ℕ, ◌+◌, length-drop, drop, get_or, Option, option_map, ap, sym, ◌∙◌, arith}
use Rattle.index_model.specs.Forms.{Value}
use Rattle.entry_scan.proofs.FirstLaws.{found, passed, no_stop, none_first}
use Rattle.entry_scan.proofs.ValueLaws.{no_fault, specs_from, zero_spec}
use Rattle.entry_scan.proofs.written.sought.Goals as goal

abbrev text : Option (ℕ × Value) → Option Value
text o = option_map (λ (v : ℕ × Value). v.1) o

pub returns-in-Ok : goal.returns-in-Ok
returns-in-Ok c =
    let all = c.args.specs.now in
    let k = c.loop-spec.spec-index in
    let left = rw (specs_from all k c.loop-spec-test.true) at c.loop-spec.invariant.left in
    let same = rw (specs_from all k c.loop-spec-test.true) at c.loop-spec.invariant.same in
    sym (sym (ap text same) ∙ found c.args.format c.args.number (get_or all k zero_spec) (drop (k + 1) all) c.loop-spec.cursor left _ _ c.in-Ok.ensures.value c.if-spec-number.true)

pub returns-in-Err : goal.returns-in-Err
returns-in-Err c =
    let all = c.args.specs.now in
    let k = c.loop-spec.spec-index in
    let left = rw (specs_from all k c.loop-spec-test.true) at c.loop-spec.invariant.left in
    absurd (no_fault c.args.format (get_or all k zero_spec) (drop (k + 1) all) c.loop-spec.cursor _ c.in-Err.ensures.value left)

pub returns-in-Err-pass_one : goal.returns-in-Err-pass_one
returns-in-Err-pass_one c =
    let all = c.args.specs.now in
    let k = c.loop-spec.spec-index in
    let left = rw (specs_from all k c.loop-spec-test.true) at c.loop-spec.invariant.left in
    absurd (no_stop c.args.format c.args.number (get_or all k zero_spec) (drop (k + 1) all) c.loop-spec.cursor left _ c.in-Err-pass_one.ensures.value)

pub loop-spec-preserved : goal.loop-spec-preserved
loop-spec-preserved c =
    let all = c.args.specs.now in
    let k = c.loop-spec.spec-index in
    let left = rw (specs_from all k c.loop-spec-test.true) at c.loop-spec.invariant.left in
    let same = rw (specs_from all k c.loop-spec-test.true) at c.loop-spec.invariant.same in
    let on = passed c.args.format c.args.number (get_or all k zero_spec) (drop (k + 1) all) c.loop-spec.cursor left c.pass_one.new.cursor c.in_default.ensures.value c.if-spec-number.false in
    record { left = on.0; same = sym on.1 ∙ same }

pub returns : goal.returns
returns c =
    let all = c.args.specs.now in
    let none = none_first c.args.format c.args.number (drop c.loop-spec.spec-index all) c.loop-spec.cursor (omega (arith, length-drop c.loop-spec.spec-index all, c.loop-spec-test.false)) in
    sym (sym (ap text c.loop-spec.invariant.same) ∙ none)

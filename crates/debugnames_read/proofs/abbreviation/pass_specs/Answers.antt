use Rattle.std.proofs.Common.{◌≡◌, ℕ, ◌+◌, ◌-◌, suc, length, true, false, ap, sym, ◌∙◌, arith}
use Rattle.index_model.specs.NameAbbreviations.{is_form}
use Rattle.debugnames_read.specs.Specs.{is_last, place_behind, spec_seen}
use Rattle.debugnames_read.proofs.Readings.{no_specs, place_goes, place_of_wrong, specs_cut, specs_end, specs_form}
use Rattle.debugnames_read.proofs.abbreviation.pass_specs.Goals as goal

pub returns-in_default-clause-value : goal.returns-in_default-clause-value
returns-in_default-clause-value c =
    let n : ℕ = length c.rest.result.now in
    let less : n + 1 - c.attributes.counter ≡ suc (n - c.attributes.counter) = omega (arith, c.attributes-test.true) in
    let more = rw less at c.attributes.invariant.value in
    sym more ∙ ap place_behind (specs_cut c.args.wrong.at (n - c.attributes.counter) c.attributes.cursor c.in_default.ensures.value) ∙ place_of_wrong c.args.wrong c.requires

pub returns-then-is_last-clause-value : goal.returns-then-is_last-clause-value
returns-then-is_last-clause-value c =
    let n : ℕ = length c.rest.result.now in
    let less : n + 1 - c.attributes.counter ≡ suc (n - c.attributes.counter) = omega (arith, c.attributes-test.true) in
    let more = rw less at c.attributes.invariant.value in
    let last : is_last (spec_seen c.in-Some.spec) ≡ true = sym c.is_last.ensures ∙ c.if-is_last.true in
    sym more ∙ ap place_behind (specs_end c.args.wrong.at (n - c.attributes.counter) c.attributes.cursor (spec_seen c.in-Some.spec) c.read.new.cursor c.in-Some.ensures.value last)

pub returns-then-not-is_form-clause-value : goal.returns-then-not-is_form-clause-value
returns-then-not-is_form-clause-value c =
    let n : ℕ = length c.rest.result.now in
    let less : n + 1 - c.attributes.counter ≡ suc (n - c.attributes.counter) = omega (arith, c.attributes-test.true) in
    let more = rw less at c.attributes.invariant.value in
    let on : is_last (spec_seen c.in-Some.spec) ≡ false = sym c.is_last.ensures ∙ c.if-is_last.false in
    let unknown : is_form c.in-Some.spec.form ≡ false = sym c.is_form.ensures ∙ c.if-not-is_form.true in
    sym more ∙ ap place_behind (specs_form c.args.wrong.at (n - c.attributes.counter) c.attributes.cursor (spec_seen c.in-Some.spec) c.read.new.cursor c.in-Some.ensures.value on unknown) ∙ place_of_wrong c.args.wrong c.requires

pub attributes-preserved : goal.attributes-preserved
attributes-preserved c =
    let n : ℕ = length c.rest.result.now in
    let less : n + 1 - c.attributes.counter ≡ suc (n - c.attributes.counter) = omega (arith, c.attributes-test.true) in
    let more = rw less at c.attributes.invariant.value in
    let on : is_last (spec_seen c.in-Some.spec) ≡ false = sym c.is_last.ensures ∙ c.if-is_last.false in
    let known : is_form c.in-Some.spec.form ≡ true = sym c.is_form.ensures ∙ c.if-not-is_form.false in
    let next : n + 1 - (c.attributes.counter + 1) ≡ n - c.attributes.counter = omega arith in
    record {
      value = rw next (sym (place_goes c.args.wrong.at (n - c.attributes.counter) c.attributes.cursor (spec_seen c.in-Some.spec) c.read.new.cursor c.in-Some.ensures.value on known) ∙ more);
      place = record { onwards = omega (arith, c.attributes.invariant.place.onwards, c.read.ensures.place.onwards); end = c.read.ensures.place.end ∙ c.attributes.invariant.place.end };
    }

pub returns-clause-value : goal.returns-clause-value
returns-clause-value c =
    let n : ℕ = length c.rest.result.now in
    let out : n + 1 - c.attributes.counter ≡ 0 = omega (arith, c.attributes-test.false) in
    let more = rw out at c.attributes.invariant.value in
    sym more ∙ ap place_behind (no_specs c.args.wrong.at c.attributes.cursor) ∙ place_of_wrong c.args.wrong c.requires

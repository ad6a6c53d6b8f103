use Rattle.std.proofs.Common.{◌≡◌, ℕ, ◌+◌, ◌-◌, suc, length, [], ◌∷◌, ◌++◌, true, false, ap, sym, ◌∙◌, arith}
use Rattle.index_model.specs.NameAbbreviations.{Spec}
use Rattle.debugnames_read.specs.Specs.{first_in, is_last, spec_seen, specs_in}
use Rattle.debugnames_read.specs.Values.{value_seen, with_value}
use Rattle.debugnames_read.proofs.Readings.{first_goes, ok_goes, specs_end, specs_out, specs_there}
use Rattle.debugnames_read.proofs.ValueLaws.{kept_cut, kept_end, kept_more, so_further}
use Rattle.debugnames_read.proofs.attributes.IndexAttributes.read.Goals as goal

pub returns-in_err-spec-clause-value : goal.returns-in_err-spec-clause-value
returns-in_err-spec-clause-value c =
    let n : ℕ = length c.rest.result.now in
    let less : n + 1 - c.attributes.counter ≡ suc (n - c.attributes.counter) = omega (arith, c.attributes-test.true) in
    let ok = rw less at c.attributes.invariant.ok in
    absurd (specs_there 0 (n - c.attributes.counter) c.attributes.specs ok c.in_err-spec.ensures.value)

pub returns-then-is_last-clause-value : goal.returns-then-is_last-clause-value
returns-then-is_last-clause-value c =
    let n : ℕ = length c.rest.result.now in
    let less : n + 1 - c.attributes.counter ≡ suc (n - c.attributes.counter) = omega (arith, c.attributes-test.true) in
    let so_far = c.attributes.invariant.so_far in
    let values = rw less at so_far.1 in
    let last : is_last (spec_seen c.in_ok-spec.spec) ≡ true = sym c.is_last.ensures ∙ c.if-is_last.true in
    let end = ap first_in (specs_end 0 (n - c.attributes.counter) c.attributes.specs (spec_seen c.in_ok-spec.spec) c.read.new.cursor c.in_ok-spec.ensures.value last) in
    rw so_far.2 (kept_end c.args.wide (specs_in c.args.specs) c.args.cursor.now so_far.0 _ c.attributes.cursor values end)

pub returns-in_err-value-clause-value : goal.returns-in_err-value-clause-value
returns-in_err-value-clause-value c =
    let n : ℕ = length c.rest.result.now in
    let less : n + 1 - c.attributes.counter ≡ suc (n - c.attributes.counter) = omega (arith, c.attributes-test.true) in
    let so_far = c.attributes.invariant.so_far in
    let values = rw less at so_far.1 in
    let ok = rw less at c.attributes.invariant.ok in
    let on : is_last (spec_seen c.in_ok-spec.spec) ≡ false = sym c.is_last.ensures ∙ c.if-is_last.false in
    let first = first_goes 0 (n - c.attributes.counter) c.attributes.specs (spec_seen c.in_ok-spec.spec) c.read.new.cursor c.in_ok-spec.ensures.value on ok in
    rw c.from_residual-in_err-value.ensures (kept_cut c.args.wide (specs_in c.args.specs) c.args.cursor.now so_far.0 _ c.attributes.cursor values (spec_seen c.in_ok-spec.spec) _ first c.in_err-value.ensures.value)

pub attributes-preserved : goal.attributes-preserved
attributes-preserved c =
    let n : ℕ = length c.rest.result.now in
    let less : n + 1 - c.attributes.counter ≡ suc (n - c.attributes.counter) = omega (arith, c.attributes-test.true) in
    let next : n + 1 - (c.attributes.counter + 1) ≡ n - c.attributes.counter = omega arith in
    let so_far = c.attributes.invariant.so_far in
    let values = rw less at so_far.1 in
    let ok = rw less at c.attributes.invariant.ok in
    let s : Spec = spec_seen c.in_ok-spec.spec in
    let on : is_last s ≡ false = sym c.is_last.ensures ∙ c.if-is_last.false in
    let first = first_goes 0 (n - c.attributes.counter) c.attributes.specs s c.read.new.cursor c.in_ok-spec.ensures.value on ok in
    let further = so_further c.args.wide (specs_in c.args.specs) c.args.cursor.now so_far.0 _ c.attributes.cursor values s _ first (value_seen c.in_ok-value.value) c.read_value.new.cursor c.in_ok-value.ensures.value in
    record {
      ok = rw next (ok_goes 0 (n - c.attributes.counter) c.attributes.specs s c.read.new.cursor c.in_ok-spec.ensures.value on ok);
      so_far = (so_far.0 ++ (s.attribute, value_seen c.in_ok-value.value) ∷ [], rw next further, c.keep.ensures ∙ ap (λ k. with_value k s.attribute (value_seen c.in_ok-value.value)) so_far.2 ∙ sym (kept_more so_far.0 s.attribute (value_seen c.in_ok-value.value)));
      place = record { onwards = omega (arith, c.attributes.invariant.place.onwards, c.read_value.ensures.place.onwards); end = c.read_value.ensures.place.end ∙ c.attributes.invariant.place.end };
    }

pub returns-clause-value : goal.returns-clause-value
returns-clause-value c =
    let n : ℕ = length c.rest.result.now in
    let out : n + 1 - c.attributes.counter ≡ 0 = omega (arith, c.attributes-test.false) in
    let ok = rw out at c.attributes.invariant.ok in
    absurd (specs_out 0 c.attributes.specs ok)

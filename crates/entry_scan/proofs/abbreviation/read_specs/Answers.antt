use Rattle.std.proofs.Common.{◌≡◌, ◌+◌, ◌-◌, ◌≤◌, true, false, length, Some, None, Err, sym, ap, subst, ◌∙◌, arith}
use Rattle.std.proofs.lemmas.Result.{err_from_is_err_and}
use Rattle.std.proofs.lemmas.List.{map-append, take-append-le, drop-append-le}
use Rattle.std.specs.Option.{ok_or}
use Rattle.common_laws.proofs.Numbers.{one_left}
use Rattle.ix_base.specs.Moves.{Reads}
use Rattle.index_model.specs.Abbreviations.{spec_at, is_end}
use Rattle.ix_base.specs.declared.or_memory.OrMemory.TheVariants as stops
use Rattle.entry_scan.specs.SeenAbbreviations.{spec_seen}
use Rattle.entry_scan.proofs.AbbreviationDamage.{damaged}
use Rattle.entry_scan.proofs.AbbreviationFronts.{specs_out, specs_cut, specs_end, specs_more, begins_within}
use Rattle.entry_scan.proofs.abbreviation.read_specs.Goals as goal

pub returns-in_err-spec-clause-value : goal.returns-in_err-spec-clause-value
returns-in_err-spec-clause-value c =
    let none : c.read_spec.result ≡ None = grind arith in
    let cut = subst (λ r. Reads spec_seen spec_at c.attributes.cursor c.read_spec.new.cursor r) none c.read_spec.ensures in
    let more = rw (one_left (length c.rest-end.result.now) c.attributes.counter c.attributes-test.true) at c.attributes.invariant.so_far in
    let p = err_from_is_err_and c.from_residual.result c.from_residual.ensures.1 in
    let same : c.in_err-spec.field-0.0 ≡ stops.Cause (record {}) = (let e = c.in_err-spec.ensures.value ∙ ap (λ o. ok_or o (stops.Cause (record {}))) none in cc) in
    let is : c.from_residual.result ≡ Err (stops.Cause (record {})) = p.1 ∙ ap Err (p.2 ∙ same) in
    damaged _ _ _ (record {}) is (sym more ∙ specs_cut (length c.rest-end.result.now - (c.attributes.counter + 1)) c.attributes.cursor _ cut)

pub returns-then-is_end-clause-value : goal.returns-then-is_end-clause-value
returns-then-is_end-clause-value c =
    let some : c.read_spec.result ≡ Some c.in_ok-spec.spec = grind arith in
    let e = subst (λ r. Reads spec_seen spec_at c.attributes.cursor c.read_spec.new.cursor r) some c.read_spec.ensures in
    let more = rw (one_left (length c.rest-end.result.now) c.attributes.counter c.attributes-test.true) at c.attributes.invariant.so_far in
    let end : is_end (spec_seen c.in_ok-spec.spec) ≡ true = sym c.is_end.ensures ∙ c.if-is_end.true in
    sym more ∙ specs_end (length c.rest-end.result.now - (c.attributes.counter + 1)) c.attributes.cursor c.read_spec.new.cursor (spec_seen c.in_ok-spec.spec) _ e end

pub attributes-preserved : goal.attributes-preserved
attributes-preserved c =
    let some : c.read_spec.result ≡ Some c.in_ok-spec.spec = grind arith in
    let e = subst (λ r. Reads spec_seen spec_at c.attributes.cursor c.read_spec.new.cursor r) some c.read_spec.ensures in
    let more = rw (one_left (length c.rest-end.result.now) c.attributes.counter c.attributes-test.true) at c.attributes.invariant.so_far in
    let within : length c.args.specs.now.items ≤ length c.attributes.specs.items = begins_within c.args.specs.now.items c.attributes.specs.items c.attributes.invariant.kept in
    let on : is_end (spec_seen c.in_ok-spec.spec) ≡ false = sym c.is_end.ensures ∙ c.if-is_end.false in
    record {
      kept = rw c.in_ok-push.ensures.items (rw take-append-le c.attributes.invariant.kept);
      so_far = rw c.in_ok-push.ensures.items (rw drop-append-le (rw map-append (sym (specs_more (length c.rest-end.result.now - (c.attributes.counter + 1)) c.attributes.cursor c.read_spec.new.cursor (spec_seen c.in_ok-spec.spec) _ e on) ∙ more)));
    }

pub returns-clause-value : goal.returns-clause-value
returns-clause-value c =
    let out : length c.rest-end.result.now - c.attributes.counter ≡ 0 = omega arith in
    let more = rw out at c.attributes.invariant.so_far in
    sym more ∙ specs_out c.attributes.cursor _

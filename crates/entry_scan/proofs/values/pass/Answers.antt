use Rattle.std.proofs.Common.{◌≡◌, ◌+◌, [], drop, get_or, sym, ◌∙◌, rules}
use Rattle.std.proofs.lemmas.List.{drop_all}
use Rattle.entry_scan.proofs.ValueLaws.{place_goes, place_stops, none_moves, specs_from, zero_spec}
use Rattle.entry_scan.proofs.values.pass.Goals as goal

pub returns-in-Err-clause-value : goal.returns-in-Err-clause-value
returns-in-Err-clause-value c =
    let all = c.args.specs.now in
    let k = c.loop-spec.spec-index in
    let stop = place_stops c.args.format (get_or all k zero_spec) (drop (k + 1) all) c.loop-spec.cursor _ c.in-Err.ensures.value in
    let here = rw (specs_from all k c.loop-spec-test.true) at c.loop-spec.invariant.same in
    sym here ∙ stop

pub loop-spec-preserved : goal.loop-spec-preserved
loop-spec-preserved c =
    let all = c.args.specs.now in
    let k = c.loop-spec.spec-index in
    let on = place_goes c.args.format (get_or all k zero_spec) (drop (k + 1) all) c.loop-spec.cursor c.pass_one.new.cursor c.in_default.ensures.value in
    let here = rw (specs_from all k c.loop-spec-test.true) at c.loop-spec.invariant.same in
    record { same = sym on ∙ here; place = search rules }

pub returns-clause-value : goal.returns-clause-value
returns-clause-value c =
    let none : drop c.loop-spec.spec-index c.args.specs.now ≡ [] = drop_all c.loop-spec.spec-index c.args.specs.now c.loop-spec-test.false in
    sym c.loop-spec.invariant.same ∙ none_moves c.args.format _ c.loop-spec.cursor none

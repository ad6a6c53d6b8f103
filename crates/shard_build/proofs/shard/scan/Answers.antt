use Rattle.std.proofs.Common.{◌≡◌, ℕ, ◌-◌, take, Ok, ap, subst, arith, ◌∙◌}
use Rattle.std.proofs.lemmas.Result.{err_from_is_err_and}
use Rattle.index_model.specs.Faults.{scanned}
use Rattle.index_model.specs.Gives.{StopsAs}
use Rattle.index_model.specs.Meaning.{each}
use Rattle.index_model.specs.Strings.{str}
use Rattle.shard_build.proofs.RunEnds.{units_from, so_far_none, so_far_more, run_stops, first_is, in_run}
use Rattle.shard_build.proofs.shard.scan.Goals as goal

pub loop-number-init : goal.loop-number-init
loop-number-init c =
    let im = c.args.image.now in
    let new = c.new-run.ensures in
    record {
      kept = so_far_none im.sections im.units c.args.first c.args.count c.requires c.new-run.result new.roots new.nodes (new.strings ∙ c.debug_str.ensures.value ∙ ap str c.sections.ensures.value) new.spans new.imports;
      tables = c.in_ok-tables.ensures _;
    }

pub returns-in_err-add_unit : goal.returns-in_err-add_unit
returns-in_err-add_unit c =
    let im = c.args.image.now in
    let n = c.loop-number.number in
    let kept = c.loop-number.invariant.kept in
    let stop = c.in_err-add_unit.field-0.0 in
    let u = in_run im.sections im.units c.args.first c.args.count c.requires n c.loop-number-test.true in
    let here : StopsAs stop (scanned im.sections (n, u.0)) = c.in_err-add_unit.ensures.value u.0 u.1 in
    let p = err_from_is_err_and c.from_residual-in_err-add_unit.result c.from_residual-in_err-add_unit.ensures.1 in
    rw (p.1, p.2) (run_stops im.sections im.units c.args.first c.args.count c.requires n u.0 c.loop-number.auto.number c.loop-number-test.true u.1 kept.front stop kept.read here)

pub loop-number-preserved : goal.loop-number-preserved
loop-number-preserved c =
    let im = c.args.image.now in
    let n = c.loop-number.number in
    let u = in_run im.sections im.units c.args.first c.args.count c.requires n c.loop-number-test.true in
    let more = c.in_ok-add_unit.ensures.value u.0 u.1 in
    record {
      kept = so_far_more im.sections im.units c.args.first c.args.count c.requires n u.0 c.loop-number.run c.add_unit.new.run c.loop-number.auto.number c.loop-number-test.true u.1 c.loop-number.invariant.kept more;
      tables = c.in_ok-add_unit.ensures.tables;
    }

pub returns : goal.returns
returns c =
    let im = c.args.image.now in
    let kept = c.loop-number.invariant.kept in
    let end : c.loop-number.number - c.args.first ≡ c.args.count = omega (arith, c.loop-number-test.false, c.loop-number.auto.number, c.loop-number.auto.number-end) in
    let read = subst (λ (k : ℕ). each (scanned im.sections) (take k (units_from im.units c.args.first)) ≡ Ok kept.front) end kept.read in
    let first = first_is im.sections im.units c.args.first c.args.count c.requires kept.front read in
    rw read (c.shard.ensures im.sections kept.front kept.holds first)

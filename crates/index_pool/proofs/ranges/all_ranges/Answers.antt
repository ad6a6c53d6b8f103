use Rattle.std.proofs.Common.{◌≡◌, ℕ, ◌+◌, ◌<◌, List, [], length, map, take, ap, subst, ◌∙◌, arith}
use Rattle.std.specs.Prelude.{IsOkAnd}
use Rattle.std.specs.Arc.{arc_value}
use Rattle.std.proofs.Math.Seq.{take-length}
use Rattle.std.proofs.lemmas.Result.{err_from_is_err_and}
use Rattle.index_model.specs.declared.range.UnitRange.{UnitRange}
use Rattle.index_model.specs.Faults.{all_ranges}
use Rattle.index_model.specs.Program.{Walked}
use Rattle.index_model.specs.Ranges.{ranges_in, unit_at}
use Rattle.qualified_names.specs.Files.{ForLinks}
use Rattle.range_lists.specs.Same.{HaveSameUnits}
use Rattle.index_pool.proofs.Lists.{and_ok}
use Rattle.index_pool.proofs.RangeLoop.{none_first, stops_all, unit_more, unit_stops, walks_count}
use Rattle.index_pool.proofs.ranges.all_ranges.Goals as goal

pub loop-number-init : goal.loop-number-init
loop-number-init c p file ks links = (
  c.none-found.ensures.lists c.args.image.now.sections,
  and_ok (ranges_in p ks (take 0 p.walks)) [] (HaveSameUnits c.none-found.result.ranges.items) (none_first p ks) (λ a. ap (λ (us : List UnitRange). unit_at us a) c.none-found.ensures.ranges),
)

pub loop-number-preserved : goal.loop-number-preserved
loop-number-preserved c =
    let n = c.loop-number.number in
    let within : ForLinks c.args.image.now (λ p ks. n < length p.walks) = λ p file ks links. omega (arith, c.loop-number-test.true, walks_count c.args.image.now c.units.ensures.of_file p file, ap length c.units.ensures.value, c.units.ensures.few) in
    unit_more c.args.image.now (map arc_value c.args.shards.now) (map arc_value c.args.linked.now) c.requires n within c.loop-number.found c.loop-number.invariant c.add_unit.new.self c.in_ok-add_unit.ensures

pub returns-in_err-add_unit : goal.returns-in_err-add_unit
returns-in_err-add_unit c p file ks links =
    let n = c.loop-number.number in
    let within : ForLinks c.args.image.now (λ p ks. n < length p.walks) = λ p file ks links. omega (arith, c.loop-number-test.true, walks_count c.args.image.now c.units.ensures.of_file p file, ap length c.units.ensures.value, c.units.ensures.few) in
    let stopped = unit_stops c.args.image.now (map arc_value c.args.shards.now) (map arc_value c.args.linked.now) c.requires n within c.loop-number.found c.loop-number.invariant c.in_err-add_unit.field-0.0 c.in_err-add_unit.ensures p file ks links in
    let q = err_from_is_err_and c.from_residual.result c.from_residual.ensures.1 in
    rw (q.1, q.2) (stops_all p ks (n + 1) c.in_err-add_unit.field-0.0 stopped)

pub returns : goal.returns
unfolding all_ranges
returns c p file ks links =
    let count = walks_count c.args.image.now c.units.ensures.of_file p file in
    let all : take c.loop-number.number p.walks ≡ p.walks = ap (λ (n : ℕ). take n p.walks) (omega (arith, c.loop-number-test.false, c.loop-number.auto.number-end, count, ap length c.units.ensures.value, c.units.ensures.few)) ∙ take-length p.walks in
    subst (λ (ws : List Walked). IsOkAnd (ranges_in p ks ws) (HaveSameUnits c.loop-number.found.ranges.items)) all (c.loop-number.invariant p file ks links).1

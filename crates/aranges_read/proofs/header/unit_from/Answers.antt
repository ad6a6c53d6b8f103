use Rattle.std.proofs.Common.{ltb, rules, of_calls, sym, ◌∙◌}
use Rattle.std.proofs.lemmas.Bool.{ltb-true, ltb-false}
use Rattle.std.proofs.lemmas.List.Sorted.{IsPartitionPoint-from_clause, IsPartitionedBy-ltb}
use Rattle.index_model.specs.declared.unit.Unit.{Unit as UnitHeader}
use Rattle.aranges_read.proofs.Units.{non_decreasing, none_left, elsewhere, in_info, in_types}
use Rattle.aranges_read.proofs.header.unit_from.Goals as goal

pub returns-in_err-unit : goal.returns-in_err-unit
returns-in_err-unit c =
    let point = IsPartitionPoint-from_clause (λ (u : UnitHeader). ltb u.start c.args.offset) c.args.units.now c.partition_point-number.result c.partition_point-number.ensures.partitioned (IsPartitionedBy-ltb (λ (u : UnitHeader). u.start) c.args.units.now c.args.offset (non_decreasing c.args.units.now 0 c.requires.rise)) (λ a r f k. search (rules, of_calls)) in
    c.from_residual.ensures ∙ none_left c.args.offset c.args.units.now c.partition_point-number.result c.requires.rise c.partition_point-number.ensures.bound point (ltb-false _ _ (sym c.in_err-unit.ensures.lookup.0))

pub returns-then-unit-offset : goal.returns-then-unit-offset
returns-then-unit-offset c =
    let point = IsPartitionPoint-from_clause (λ (u : UnitHeader). ltb u.start c.args.offset) c.args.units.now c.partition_point-number.result c.partition_point-number.ensures.partitioned (IsPartitionedBy-ltb (λ (u : UnitHeader). u.start) c.args.units.now c.args.offset (non_decreasing c.args.units.now 0 c.requires.rise)) (λ a r f k. search (rules, of_calls)) in
    let l = c.in_ok-unit.ensures.lookup in
    elsewhere c.args.offset c.args.units.now c.partition_point-number.result c.requires.rise c.partition_point-number.ensures.bound point c.in_ok-unit.unit.now (ltb-true _ _ (sym l.0)) l.1 c.if-unit-offset.true

pub returns-in-Info : goal.returns-in-Info
returns-in-Info c =
    let point = IsPartitionPoint-from_clause (λ (u : UnitHeader). ltb u.start c.args.offset) c.args.units.now c.partition_point-number.result c.partition_point-number.ensures.partitioned (IsPartitionedBy-ltb (λ (u : UnitHeader). u.start) c.args.units.now c.args.offset (non_decreasing c.args.units.now 0 c.requires.rise)) (λ a r f k. search (rules, of_calls)) in
    let l = c.in_ok-unit.ensures.lookup in
    in_info c.args.offset c.args.units.now c.partition_point-number.result c.requires.rise c.partition_point-number.ensures.bound point c.in_ok-unit.unit.now (ltb-true _ _ (sym l.0)) l.1 c.if-unit-offset.false c.in-Info.is

pub returns-in-Types : goal.returns-in-Types
returns-in-Types c =
    let point = IsPartitionPoint-from_clause (λ (u : UnitHeader). ltb u.start c.args.offset) c.args.units.now c.partition_point-number.result c.partition_point-number.ensures.partitioned (IsPartitionedBy-ltb (λ (u : UnitHeader). u.start) c.args.units.now c.args.offset (non_decreasing c.args.units.now 0 c.requires.rise)) (λ a r f k. search (rules, of_calls)) in
    let l = c.in_ok-unit.ensures.lookup in
    in_types c.args.offset c.args.units.now c.partition_point-number.result c.requires.rise c.partition_point-number.ensures.bound point c.in_ok-unit.unit.now (ltb-true _ _ (sym l.0)) l.1 c.in-Types.is

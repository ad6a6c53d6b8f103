use Rattle.std.proofs.Common.{Option, refl, ltb, rules, of_calls, ap, sym, ◌∙◌, arith}
use Rattle.std.specs.Prelude.{option_and_then}
use Rattle.std.specs.Option.{option_map}
use Rattle.std.proofs.lemmas.Bool.{ltb-true, ltb-false}
use Rattle.std.proofs.lemmas.Option.{slice_get_past, slice_get_read}
use Rattle.std.proofs.lemmas.List.Sorted.{IsPartitionPoint-from_clause, IsPartitionedBy-ltb}
use Rattle.gdb_units.specs.declared.partial_roots.PartialRoot.{PartialRoot}
use Rattle.gdb_units.proofs.PointLaws.{at_point, if_there, then_unit}
use Rattle.gdb_units.proofs.partial_roots.unit_at.Goals as goal

pub returns-in_err-root : goal.returns-in_err-root
returns-in_err-root c rise =
    let o = c.args.offset in
    let rs = c.args.roots.now in
    let n = c.partition_point-place.result in
    let point = IsPartitionPoint-from_clause (λ r. ltb r.offset o) rs n c.partition_point-place.ensures.partitioned (IsPartitionedBy-ltb (λ r. r.offset) rs o rise) (λ a r f k. search (rules, of_calls)) in
    let found = at_point o rs n rise (λ k d l. ltb-true _ o (point.0 k d (omega arith) l)) (λ k d le l. ltb-false _ o (point.1 k d le l)) in
    let past = slice_get_past rs n (ltb-false n _ (sym c.in_err-root.ensures.lookup.0)) in
    c.from_residual.ensures ∙ sym (ap (option_map (λ (r : PartialRoot). r.unit)) (found ∙ ap (λ (x : Option PartialRoot). option_and_then (if_there o) x) past))

pub returns : goal.returns
returns c rise =
    let o = c.args.offset in
    let rs = c.args.roots.now in
    let n = c.partition_point-place.result in
    let point = IsPartitionPoint-from_clause (λ r. ltb r.offset o) rs n c.partition_point-place.ensures.partitioned (IsPartitionedBy-ltb (λ r. r.offset) rs o rise) (λ a r f k. search (rules, of_calls)) in
    let found = at_point o rs n rise (λ k d l. ltb-true _ o (point.0 k d (omega arith) l)) (λ k d le l. ltb-false _ o (point.1 k d le l)) in
    let l = c.in_ok-root.ensures.lookup in
    let here = slice_get_read rs _ n c.in_ok-root.field-0.now refl (ltb-true n _ (sym l.0)) l.1 in
    c.then_some.ensures ∙ then_unit _ c.in_ok-root.field-0.now ∙ sym (ap (option_map (λ (r : PartialRoot). r.unit)) (found ∙ ap (λ (x : Option PartialRoot). option_and_then (if_there o) x) here))

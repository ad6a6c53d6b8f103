use Rattle.std.proofs.Common.{Option, refl, ltb, rules, of_calls, ap, sym, ◌∙◌, arith}
use Rattle.std.specs.Prelude.{option_and_then}
use Rattle.std.proofs.lemmas.Bool.{ltb-true, ltb-false}
use Rattle.std.proofs.lemmas.Option.{slice_get_past, slice_get_read}
use Rattle.std.proofs.lemmas.List.Sorted.{IsPartitionPoint-from_clause, IsPartitionedBy-ltb}
use Rattle.gdb_items.specs.declared.item.UnitItem.{UnitItem}
use Rattle.gdb_items.proofs.PlaceLaws.{at_point, if_there, then_item}
use Rattle.gdb_items.proofs.read_unit.item_at.Goals as goal

pub returns-in_err-item : goal.returns-in_err-item
returns-in_err-item c rise =
    let o = c.args.offset in
    let is = c.args.items.now in
    let n = c.partition_point-place.result in
    let point = IsPartitionPoint-from_clause (λ i. ltb i.offset o) is n c.partition_point-place.ensures.partitioned (IsPartitionedBy-ltb (λ i. i.offset) is o rise) (λ a r f k. search (rules, of_calls)) in
    let found = at_point o is n rise (λ k d l. ltb-true _ o (point.0 k d (omega arith) l)) (λ k d le l. ltb-false _ o (point.1 k d le l)) in
    let past = slice_get_past is n (ltb-false n _ (sym c.in_err-item.ensures.lookup.0)) in
    c.from_residual.ensures ∙ sym (found ∙ ap (λ (x : Option UnitItem). option_and_then (if_there o) x) past)

pub returns : goal.returns
returns c rise =
    let o = c.args.offset in
    let is = c.args.items.now in
    let n = c.partition_point-place.result in
    let point = IsPartitionPoint-from_clause (λ i. ltb i.offset o) is n c.partition_point-place.ensures.partitioned (IsPartitionedBy-ltb (λ i. i.offset) is o rise) (λ a r f k. search (rules, of_calls)) in
    let found = at_point o is n rise (λ k d l. ltb-true _ o (point.0 k d (omega arith) l)) (λ k d le l. ltb-false _ o (point.1 k d le l)) in
    let l = c.in_ok-item.ensures.lookup in
    let here = slice_get_read is _ n c.in_ok-item.field-0.now refl (ltb-true n _ (sym l.0)) l.1 in
    c.then_some.ensures ∙ then_item _ c.in_ok-item.field-0.now ∙ sym (found ∙ ap (λ (x : Option UnitItem). option_and_then (if_there o) x) here)

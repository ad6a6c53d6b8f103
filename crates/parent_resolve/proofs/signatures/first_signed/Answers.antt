use Rattle.std.proofs.Common.{Option, refl, ltb, rules, of_calls, ap, sym, ◌∙◌, arith}
use Rattle.std.specs.Prelude.{option_and_then}
use Rattle.std.proofs.lemmas.Bool.{ltb-true, ltb-false}
use Rattle.std.proofs.lemmas.Option.{slice_get_past, slice_get_read}
use Rattle.std.proofs.lemmas.List.Sorted.{IsPartitionPoint-from_clause, IsPartitionedBy-ltb}
use Rattle.parent_resolve.specs.declared.signatures.TypeUnit.{TypeUnit}
use Rattle.parent_resolve.proofs.SignedLaws.{at_point, if_signed, then_is}
use Rattle.parent_resolve.proofs.signatures.first_signed.Goals as goal

pub returns-in_err-unit : goal.returns-in_err-unit
returns-in_err-unit c rise =
    let s = c.args.signature in
    let ts = c.args.units.now in
    let n = c.partition_point-place.result in
    let point = IsPartitionPoint-from_clause (λ t. ltb t.signature s) ts n c.partition_point-place.ensures.partitioned (IsPartitionedBy-ltb (λ t. t.signature) ts s rise) (λ a r f k. search (rules, of_calls)) in
    let found = at_point s ts n rise (λ k d l. ltb-true _ s (point.0 k d (omega arith) l)) (λ k d le l. ltb-false _ s (point.1 k d le l)) in
    let past = slice_get_past ts n (ltb-false n _ (sym c.in_err-unit.ensures.lookup.0)) in
    c.from_residual.ensures ∙ sym (found ∙ ap (λ (o : Option TypeUnit). option_and_then (if_signed s) o) past)

pub returns : goal.returns
returns c rise =
    let s = c.args.signature in
    let ts = c.args.units.now in
    let n = c.partition_point-place.result in
    let point = IsPartitionPoint-from_clause (λ t. ltb t.signature s) ts n c.partition_point-place.ensures.partitioned (IsPartitionedBy-ltb (λ t. t.signature) ts s rise) (λ a r f k. search (rules, of_calls)) in
    let found = at_point s ts n rise (λ k d l. ltb-true _ s (point.0 k d (omega arith) l)) (λ k d le l. ltb-false _ s (point.1 k d le l)) in
    let l = c.in_ok-unit.ensures.lookup in
    let here = slice_get_read ts _ n c.in_ok-unit.field-0.now refl (ltb-true n _ (sym l.0)) l.1 in
    c.then_some.ensures ∙ then_is _ c.in_ok-unit.field-0.now ∙ sym (found ∙ ap (λ (o : Option TypeUnit). option_and_then (if_signed s) o) here)

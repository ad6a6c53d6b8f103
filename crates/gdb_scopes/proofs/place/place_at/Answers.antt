use Rattle.std.proofs.Common.{Option, refl, ltb, rules, of_calls, ap, sym, ◌∙◌, arith}
use Rattle.std.specs.Prelude.{option_and_then}
use Rattle.std.proofs.lemmas.Bool.{ltb-true, ltb-false}
use Rattle.std.proofs.lemmas.Option.{slice_get_past, slice_get_read}
use Rattle.std.proofs.lemmas.List.Sorted.{IsPartitionPoint-from_clause, IsPartitionedBy-ltb}
use Rattle.gdb_scopes.specs.declared.place.Place.{Place}
use Rattle.gdb_scopes.proofs.PlacedLaws.{at_point, if_there, then_place}
use Rattle.gdb_scopes.proofs.place.place_at.Goals as goal

pub returns-in_err-place : goal.returns-in_err-place
returns-in_err-place c rise =
    let o = c.args.offset in
    let xs = c.args.places.now in
    let n = c.partition_point-point.result in
    let point = IsPartitionPoint-from_clause (λ x. ltb x.offset o) xs n c.partition_point-point.ensures.partitioned (IsPartitionedBy-ltb (λ x. x.offset) xs o rise) (λ a r f k. search (rules, of_calls)) in
    let found = at_point o xs n rise (λ k d l. ltb-true _ o (point.0 k d (omega arith) l)) (λ k d le l. ltb-false _ o (point.1 k d le l)) in
    let past = slice_get_past xs n (ltb-false n _ (sym c.in_err-place.ensures.lookup.0)) in
    c.from_residual.ensures ∙ sym (found ∙ ap (λ (x : Option Place). option_and_then (if_there o) x) past)

pub returns : goal.returns
returns c rise =
    let o = c.args.offset in
    let xs = c.args.places.now in
    let n = c.partition_point-point.result in
    let point = IsPartitionPoint-from_clause (λ x. ltb x.offset o) xs n c.partition_point-point.ensures.partitioned (IsPartitionedBy-ltb (λ x. x.offset) xs o rise) (λ a r f k. search (rules, of_calls)) in
    let found = at_point o xs n rise (λ k d l. ltb-true _ o (point.0 k d (omega arith) l)) (λ k d le l. ltb-false _ o (point.1 k d le l)) in
    let l = c.in_ok-place.ensures.lookup in
    let here = slice_get_read xs _ n c.in_ok-place.field-0.now refl (ltb-true n _ (sym l.0)) l.1 in
    c.then_some.ensures ∙ then_place _ c.in_ok-place.field-0.now ∙ sym (found ∙ ap (λ (x : Option Place). option_and_then (if_there o) x) here)

use Rattle.std.proofs.Common.{ltb, rules, of_calls, ap, sym, ◌∙◌, arith}
use Rattle.std.proofs.lemmas.Bool.{ltb-true, ltb-false}
use Rattle.std.proofs.lemmas.List.Sorted.{IsPartitionPoint-from_clause, IsPartitionedBy-ltb}
use Rattle.range_lists.proofs.Searching.{has_offset, linked_at}
use Rattle.range_lists.proofs.run.is_linked.Goals as goal

pub returns-in-Some : goal.returns-in-Some
returns-in-Some c rise =
    let entries = c.args.entries.now in
    let o = c.args.offset in
    let n = c.partition_point-place.result in
    let point = IsPartitionPoint-from_clause (λ e. ltb e.offset o) entries n c.partition_point-place.ensures.partitioned (IsPartitionedBy-ltb (λ e. e.offset) entries o rise) (λ a r f k. search (rules, of_calls)) in
    let found = linked_at o entries n rise (λ k d lt. ltb-true _ o (point.0 k d (omega arith) lt)) (λ k d le lt. ltb-false _ o (point.1 k d le lt)) in
    ap (has_offset o) (sym c.in-Some.is ∙ c.offset_at.ensures) ∙ found

pub returns-in-None : goal.returns-in-None
returns-in-None c rise =
    let entries = c.args.entries.now in
    let o = c.args.offset in
    let n = c.partition_point-place.result in
    let point = IsPartitionPoint-from_clause (λ e. ltb e.offset o) entries n c.partition_point-place.ensures.partitioned (IsPartitionedBy-ltb (λ e. e.offset) entries o rise) (λ a r f k. search (rules, of_calls)) in
    let found = linked_at o entries n rise (λ k d lt. ltb-true _ o (point.0 k d (omega arith) lt)) (λ k d le lt. ltb-false _ o (point.1 k d le lt)) in
    ap (has_offset o) (sym c.in-None.is ∙ c.offset_at.ensures) ∙ found

use Rattle.std.proofs.Common.{◌≡◌, ◌-◌, ◌≤◌, ℕ, map, Option, Some, leb, rules, of_calls, sym, ap, ◌∙◌, arith}
use Rattle.std.proofs.lemmas.Bool.{leb-true, leb-false}
use Rattle.std.proofs.lemmas.List.Sorted.{IsPartitionPoint-from_clause, IsPartitionedBy-leb}
use Rattle.index_model.specs.Program.{Walked}
use Rattle.shard_build.proofs.UnitNumbers.{image_is, starts_rise, last_begun}
use Rattle.shard_build.proofs.found.unit_at.Goals as goal

pub returns-in_err-checked_sub : goal.returns-in_err-checked_sub
returns-in_err-checked_sub c p is w wc d dc at =
    let f = c.args.image.now.file in
    let o = c.args.offset in
    let us = c.units.result.now in
    let n = c.partition_point-begun.result in
    let are : map (λ (v : Walked). v.unit) p.walks ≡ us = (image_is f c.args.image.now p c.units.ensures.of_file is).units ∙ sym c.units.ensures.value in
    let rise = starts_rise f p is us are in
    let point = IsPartitionPoint-from_clause (λ u. leb u.start o) us n c.partition_point-begun.ensures.partitioned (IsPartitionedBy-leb (λ u. u.start) us o rise) (λ a r g k. search (rules, of_calls)) in
    let last = last_begun f p is us are w wc d dc n c.partition_point-begun.ensures.bound
    (λ k u lt. let le = leb-true _ o (point.0 k u (omega arith) lt) in omega (arith, le, at))
    (λ k u le lt. let gt = leb-false _ o (point.1 k u le lt) in omega (arith, gt, at)) in
    let none : 1 ≤ n → ⊥ = c.in_err-checked_sub.ensures in
    absurd (none (omega (arith, last)))

pub returns : goal.returns
returns c p is w wc d dc at =
    let f = c.args.image.now.file in
    let o = c.args.offset in
    let us = c.units.result.now in
    let n = c.partition_point-begun.result in
    let are : map (λ (v : Walked). v.unit) p.walks ≡ us = (image_is f c.args.image.now p c.units.ensures.of_file is).units ∙ sym c.units.ensures.value in
    let rise = starts_rise f p is us are in
    let point = IsPartitionPoint-from_clause (λ u. leb u.start o) us n c.partition_point-begun.ensures.partitioned (IsPartitionedBy-leb (λ u. u.start) us o rise) (λ a r g k. search (rules, of_calls)) in
    let last = last_begun f p is us are w wc d dc n c.partition_point-begun.ensures.bound
    (λ k u lt. let le = leb-true _ o (point.0 k u (omega arith) lt) in omega (arith, le, at))
    (λ k u le lt. let gt = leb-false _ o (point.1 k u le lt) in omega (arith, gt, at)) in
    let some : (1 ≤ n) × (c.in_ok-checked_sub.field-0 ≡ n - 1) = c.in_ok-checked_sub.ensures in
    ap {B = Option ℕ} (λ (k : ℕ). Some k) (omega (arith, some.1, last))

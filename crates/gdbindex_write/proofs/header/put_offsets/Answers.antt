use Rattle.std.proofs.Common.{◌≡◌, ℕ, ◌++◌, length, sym, ap, ◌∙◌, arith}
use Rattle.std.specs.Prelude.{flat_map}
use Rattle.std.proofs.lemmas.List.{append-nil}
use Rattle.std.proofs.lemmas.List.Sums.{sum_by_more, sum_by_more_le, sum_by-take-le}
use Rattle.index_model.specs.Layout.{below, u32_bytes}
use Rattle.gdbindex_write.specs.Header.{offset_of}
use Rattle.gdbindex_write.proofs.HeaderLaws.{offsets_more}
use Rattle.gdbindex_write.proofs.header.put_offsets.Goals as goal

pub loop-size-preserved : goal.loop-size-preserved
loop-size-preserved c =
    let inv = c.loop-size.invariant in
    record {
      made = c.in_ok-put_u32.ensures ∙ offsets_more c.args.sizes.now c.loop-size.size-index c.loop-size.at _ c.loop-size.out.items inv.made inv.next;
      next = omega (arith, inv.next, sum_by_more (λ x. x) c.args.sizes.now c.loop-size.size-index 0 c.loop-size-test.true);
    }

pub loop-size-init : goal.loop-size-init
loop-size-init c = record { made = sym (append-nil c.args.out.now.items); next = omega arith }

pub overflow_mul-at : goal.overflow_mul-at
overflow_mul-at c = omega (arith, c.requires)

pub overflow_add-at : goal.overflow_add-at
overflow_add-at c = omega (arith, c.requires)

pub overflow_cast-at : goal.overflow_cast-at
overflow_cast-at c = omega (arith, c.requires, c.loop-size.invariant.next, sum_by-take-le (λ x. x) c.args.sizes.now c.loop-size.size-index)

pub overflow_add-at-in-loop-size : goal.overflow_add-at-in-loop-size
overflow_add-at-in-loop-size c = omega (arith, c.requires, c.loop-size.invariant.next, sum_by_more_le (λ x. x) c.args.sizes.now c.loop-size.size-index 0 c.loop-size-test.true)

pub returns : goal.returns
returns c =
    let all : c.loop-size.size-index ≡ length c.args.sizes.now = omega arith in
    c.loop-size.invariant.made ∙ ap (λ (n : ℕ). c.args.out.now.items ++ flat_map (λ k. u32_bytes (offset_of c.args.sizes.now k)) (below n)) all

use Rattle.std.proofs.Common.{ℕ, [], ◌∷◌, ◌++◌, take, sym, ◌∙◌, arith}
use Rattle.std.proofs.lemmas.List.FromFn.{map-range_with_len_more}
use Rattle.gdbindex_write.specs.Pools.{vectors_seen}
use Rattle.gdbindex_write.specs.Sizes.{vectors_size}
use Rattle.gdbindex_write.proofs.PartLaws.{vectors_fit, vectors_more}
use Rattle.gdbindex_write.proofs.places.vector_starts.Goals as goal

pub overflow_cast-start : goal.overflow_cast-start
overflow_cast-start c = omega (arith, c.loop-vector.invariant.next, vectors_fit c.args.vectors.now c.loop-vector.vector-index c.loop-vector-test.true, c.requires)

pub overflow_add-start-in-loop-vector : goal.overflow_add-start-in-loop-vector
overflow_add-start-in-loop-vector c = omega (arith, c.loop-vector.invariant.next, vectors_fit c.args.vectors.now c.loop-vector.vector-index c.loop-vector-test.true, c.requires)

pub loop-vector-preserved : goal.loop-vector-preserved
loop-vector-preserved c =
    let made = c.loop-vector.invariant.made in
    let next = c.loop-vector.invariant.next in
    let i = c.loop-vector.vector-index in
    record {
      made = c.in_ok-push.ensures.items ∙ (λ j. made j ++ next j ∷ []) ∙ sym (map-range_with_len_more (λ (k : ℕ). vectors_size (vectors_seen (take k c.args.vectors.now))) 0 i i (omega arith));
      next = omega (arith, next, vectors_more c.args.vectors.now i c.loop-vector-test.true);
    }

use Rattle.std.proofs.lemmas.List.{length-replicate, get_or-replicate}
use Rattle.debugnames_write.proofs.BucketLaws.{buckets_none, buckets_all, buckets_put, buckets_same}
use Rattle.debugnames_write.proofs.buckets.buckets_of.Goals as goal
use Rattle.debugnames_write.proofs.buckets.buckets_of.Goals.{then-first-eq0, else-first-eq0}

pub loop-place-init : goal.loop-place-init
loop-place-init c =
    let is = c.in_ok-buckets.ensures.items_if_clones_equal (λ y same. same) in
    buckets_none c.args.names.now c.in_ok-buckets.buckets.items (rw is (length-replicate _ _)) (λ b lt. rw is (get_or-replicate _ b 0 0 lt))

pub loop-place-preserved : goal.loop-place-preserved
loop-place-preserved c =
    let names = c.args.names.now in
    let k = c.loop-place.place in
    elim c.if-first-eq0.branch [
      | then-first-eq0 w ↦ rw w.buckets-is (buckets_put names c.loop-place.buckets.items k _ c.index_mut-first.result.now c.loop-place-test.true c.requires.buckets c.index_mut-first.ensures.value c.loop-place.invariant w.if-first-eq0.true)
      | else-first-eq0 w ↦ rw w.buckets-is (buckets_same names c.loop-place.buckets.items k _ c.index_mut-first.result.now c.loop-place-test.true c.requires.buckets c.index_mut-first.ensures.value c.loop-place.invariant w.if-first-eq0.false)
    ]

pub returns : goal.returns
returns c = buckets_all c.args.names.now c.loop-place.buckets.items c.loop-place.place c.loop-place-test.false c.loop-place.invariant

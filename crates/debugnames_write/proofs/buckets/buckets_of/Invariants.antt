use Rattle.debugnames_write.proofs.BucketLaws.{AreBuckets}
use Rattle.debugnames_write.proofs.buckets.buckets_of.Given as goal

abbrev pub invariant-loop-place : goal.invariant-loop-place
invariant-loop-place l = AreBuckets l.names l.buckets.items l.place

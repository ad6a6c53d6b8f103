use Rattle.std.proofs.Common.{◌≡◌}
use Rattle.debugnames_read.proofs.HitLaws.{bucket_at}
use Rattle.debugnames_read.proofs.NameLaws.{fault_from}
use Rattle.debugnames_read.proofs.index.check_buckets.Given as goal

-- the first fault is that of the buckets that are left
abbrev pub invariant-loop-bucket : goal.invariant-loop-bucket
invariant-loop-bucket l = fault_from (bucket_at l.tables) l.bucket l.count ≡ fault_from (bucket_at l.tables) 0 l.count

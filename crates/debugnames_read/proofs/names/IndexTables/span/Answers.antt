use Rattle.debugnames_read.proofs.HitLaws.{named_hash}
use Rattle.debugnames_read.proofs.names.IndexTables.span.Goals as goal

pub bucket_span-requires-clause-some : goal.bucket_span-requires-clause-some
bucket_span-requires-clause-some c =
    let hash = rw c.in-Some.is at c.requires.hash in
    hash.2

pub returns-in-Some-clause-covers : goal.returns-in-Some-clause-covers
returns-in-Some-clause-covers c = λ k lt named.
    let hash = rw c.in-Some.is at c.requires.hash in
    c.bucket_span.ensures.covers k lt (named_hash c.args.self.now c.requires.opened c.args.sought.now.name.now c.in-Some.hash k hash.0 hash.1 hash.2 lt named)

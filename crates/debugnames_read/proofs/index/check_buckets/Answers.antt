use Rattle.std.proofs.Common.{◌≡◌, ◌<◌, length, Some, ap, sym, ◌∙◌, arith}
use Rattle.ix_base.specs.declared.fault.Fault.{Fault}
use Rattle.index_model.specs.declared.index_code.TheConstants.{NAMES_BUCKET}
use Rattle.index_model.specs.Meaning.{fault}
use Rattle.index_model.specs.NameIndexRead.{place_in}
use Rattle.debugnames_read.specs.Tables.{tables_seen}
use Rattle.debugnames_read.proofs.Counted.{bucket_place}
use Rattle.debugnames_read.proofs.HitLaws.{all_buckets, bucket_at, bucket_inside, bucket_past}
use Rattle.debugnames_read.proofs.NameLaws.{fault_from_here, fault_from_more, fault_from_none}
use Rattle.debugnames_read.proofs.index.check_buckets.Goals as goal

pub returns-then-get-from : goal.returns-then-get-from
returns-then-get-from c =
    let t = c.args.tables.now in
    let k = c.loop-bucket.bucket in
    let count = c.len-count.result in
    let within : k < length (tables_seen t).buckets.numbers = omega (arith, c.loop-bucket-test.true, c.len-count.ensures) in
    let is : c.fault.result ≡ fault NAMES_BUCKET (place_in 4 (tables_seen t).buckets k) = c.fault.ensures ∙ ap (fault NAMES_BUCKET) (c.place.ensures ∙ bucket_place t k) in
    let here = fault_from_here (bucket_at t) k count _ c.loop-bucket-test.true (bucket_past t k within (omega (arith, c.get.ensures, c.from.ensures, c.if-get-from.true))) in
    ap (λ (d : Fault). Some d) is ∙ sym (sym (all_buckets t count c.len-count.ensures) ∙ sym c.loop-bucket.invariant ∙ here)

pub loop-bucket-preserved : goal.loop-bucket-preserved
loop-bucket-preserved c =
    let t = c.args.tables.now in
    let k = c.loop-bucket.bucket in
    let within : k < length (tables_seen t).buckets.numbers = omega (arith, c.loop-bucket-test.true, c.len-count.ensures) in
    sym (fault_from_more (bucket_at t) k c.len-count.result c.loop-bucket-test.true (bucket_inside t k within (omega (arith, c.get.ensures, c.from.ensures, c.if-get-from.false)))) ∙ c.loop-bucket.invariant

pub returns : goal.returns
returns c =
    let t = c.args.tables.now in
    sym (sym (all_buckets t c.len-count.result c.len-count.ensures) ∙ sym c.loop-bucket.invariant ∙ fault_from_none (bucket_at t) c.loop-bucket.bucket c.len-count.result c.loop-bucket-test.false)

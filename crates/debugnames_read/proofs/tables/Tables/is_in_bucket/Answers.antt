use Rattle.std.proofs.Common.{◌≡◌, ◌<◌, ◌-◌, ◌+◌, length, ap, sym, ◌∙◌, arith}
use Rattle.index_model.specs.Layout.{nth}
use Rattle.index_model.specs.NameTables.{Tables}
use Rattle.debugnames_read.specs.Tables.{tables_seen}
use Rattle.debugnames_read.proofs.BucketLaws.{begin, bucket_begins, bucket_by_last, bucket_first, own}
use Rattle.debugnames_read.proofs.Counted.{bucket_total, hash_total, own_is}
use Rattle.debugnames_read.proofs.tables.Tables.is_in_bucket.Goals as goal

pub get-requires : goal.get-requires
get-requires c = omega (arith, bucket_total c.args.self.now, c.bucket_of-own.ensures.within)

pub returns-then-get-number : goal.returns-then-get-number
returns-then-get-number c =
    let t : Tables = tables_seen c.args.self.now in
    let own_of : c.bucket_of-own.result ≡ own t c.args.number = c.bucket_of-own.ensures.value ∙ own_is c.args.self.now c.args.number in
    let from : c.get.result ≡ begin t c.args.number = c.get.ensures ∙ ap (nth t.buckets.numbers) own_of in
    sym (bucket_begins t c.args.number (sym from ∙ c.if-get-number.true))

pub returns-then-number-eq0 : goal.returns-then-number-eq0
returns-then-number-eq0 c =
    let t : Tables = tables_seen c.args.self.now in
    let own_of : c.bucket_of-own.result ≡ own t c.args.number = c.bucket_of-own.ensures.value ∙ own_is c.args.self.now c.args.number in
    let from : c.get.result ≡ begin t c.args.number = c.get.ensures ∙ ap (nth t.buckets.numbers) own_of in
    sym (bucket_first t c.args.number c.if-number-eq0.true (λ e. c.if-get-number.false (from ∙ e)))

pub returns : goal.returns
returns c =
    let t : Tables = tables_seen c.args.self.now in
    let own_of : c.bucket_of-own.result ≡ own t c.args.number = c.bucket_of-own.ensures.value ∙ own_is c.args.self.now c.args.number in
    let before_of : c.bucket_of.result ≡ own t (c.args.number - 1) = c.bucket_of.ensures.value ∙ own_is c.args.self.now (c.args.number - 1) in
    let from : c.get.result ≡ begin t c.args.number = c.get.ensures ∙ ap (nth t.buckets.numbers) own_of in
    let some : 0 < c.args.number = omega (arith, c.if-number-eq0.false) in
    let next : c.args.number ≡ c.args.number - 1 + 1 = omega (arith, some) in
    let within : c.args.number - 1 < length t.hashes.numbers = omega (arith, some, c.requires.within, hash_total c.args.self.now c.requires.some) in
    let is = bucket_by_last t (c.args.number - 1) c.args.number next within (c.requires.before some) (λ e. c.if-get-number.false (from ∙ e)) in
    rw (before_of, own_of) is

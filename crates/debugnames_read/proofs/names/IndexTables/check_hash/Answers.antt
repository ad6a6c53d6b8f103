use Rattle.std.proofs.Common.{◌≡◌, ◌-◌, length, ap, sym, ◌∙◌, arith}
use Rattle.index_model.specs.declared.index_code.TheConstants.{NAMES_BUCKET, NAMES_HASH}
use Rattle.index_model.specs.Meaning.{fault}
use Rattle.debugnames_read.specs.Abbreviations.{abbreviations_in}
use Rattle.debugnames_read.specs.Names.{tables_of}
use Rattle.debugnames_read.proofs.Counted.{bucket_total, hash_place, hash_total}
use Rattle.debugnames_read.proofs.NameLaws.{bucket_right, bucket_wrong, hash_wrong, other_bucket, other_hash, right_hash, unhashed}
use Rattle.debugnames_read.proofs.names.IndexTables.check_hash.Goals as goal

pub returns-then-tables-eq0 : goal.returns-then-tables-eq0
returns-then-tables-eq0 c name there = unhashed (tables_of c.args.self.now) c.args.number name (bucket_total c.args.self.now.tables ∙ c.if-tables-eq0.true)

pub place-requires : goal.place-requires
place-requires c = omega (arith, hash_total c.args.self.now.tables (omega (arith, c.if-tables-eq0.false)), c.requires.within)

pub returns-then-not-has_hash : goal.returns-then-not-has_hash
returns-then-not-has_hash c name there =
    let t = tables_of c.args.self.now in
    let k = c.args.number in
    let is : c.fault.result ≡ hash_wrong t k name = c.fault.ensures ∙ ap (fault NAMES_HASH) (c.place.ensures ∙ hash_place c.args.self.now.tables k) in
    let some : length t.buckets.numbers ≡ 0 → ⊥ = λ e. c.if-tables-eq0.false (sym (bucket_total c.args.self.now.tables) ∙ e) in
    rw is (other_hash t k name some (sym (c.has_hash.ensures name there) ∙ c.if-not-has_hash.true))

pub is_in_bucket-requires-clause-before : goal.is_in_bucket-requires-clause-before
is_in_bucket-requires-clause-before c = λ lt.
    let t = tables_of c.args.self.now in
    let some : length t.buckets.numbers ≡ 0 → ⊥ = λ e. c.if-tables-eq0.false (sym (bucket_total c.args.self.now.tables) ∙ e) in
    bucket_right t (abbreviations_in t.abbreviations) c.args.self.now.strings.now c.args.self.now.base (c.args.number - 1) (c.requires.before lt) some

pub place-requires-then-not-is_in_bucket : goal.place-requires-then-not-is_in_bucket
place-requires-then-not-is_in_bucket c = omega (arith, hash_total c.args.self.now.tables (omega (arith, c.if-tables-eq0.false)), c.requires.within)

pub returns-then-not-is_in_bucket : goal.returns-then-not-is_in_bucket
returns-then-not-is_in_bucket c name there =
    let t = tables_of c.args.self.now in
    let k = c.args.number in
    let is : c.fault-then-not-is_in_bucket.result ≡ bucket_wrong t k name = c.fault-then-not-is_in_bucket.ensures ∙ ap (fault NAMES_BUCKET) (c.place-then-not-is_in_bucket.ensures ∙ hash_place c.args.self.now.tables k) in
    let some : length t.buckets.numbers ≡ 0 → ⊥ = λ e. c.if-tables-eq0.false (sym (bucket_total c.args.self.now.tables) ∙ e) in
    rw is (other_bucket t k name some (sym (c.has_hash.ensures name there) ∙ c.if-not-has_hash.false) (sym c.is_in_bucket.ensures ∙ c.if-not-is_in_bucket.true))

pub returns : goal.returns
returns c name there =
    let t = tables_of c.args.self.now in
    let some : length t.buckets.numbers ≡ 0 → ⊥ = λ e. c.if-tables-eq0.false (sym (bucket_total c.args.self.now.tables) ∙ e) in
    right_hash t c.args.number name some (sym (c.has_hash.ensures name there) ∙ c.if-not-has_hash.false) (sym c.is_in_bucket.ensures ∙ c.if-not-is_in_bucket.false)

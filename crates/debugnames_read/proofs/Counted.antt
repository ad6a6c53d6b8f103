-- How many numbers the tables have.
use Rattle.std.proofs.Common.{◌≡◌, ℕ, ◌<◌, ◌%◌, ◌^◌, length, cond, Bool, true, false, eqb, refl, arith, ap, sym, ◌∙◌}
use Rattle.std.proofs.lemmas.Bool.{ne_eqb}
use Rattle.index_model.specs.Layout.{nth}
use Rattle.index_model.specs.NameIndexRead.{place_in}
use Rattle.index_model.specs.Strings.{offset_size}
use Rattle.debugnames_read.specs.declared.tables.Tables.{Tables}
use Rattle.debugnames_read.specs.Numbers.{number_count, table_seen}
use Rattle.debugnames_read.specs.Tables.{tables_seen}
use Rattle.debugnames_read.proofs.NumberTables.{length-seen}
use Rattle.debugnames_read.proofs.BucketLaws.{own}

module _ (t : Tables) where
  pub bucket_total : length (table_seen t.buckets).numbers ≡ t.counts.buckets
  bucket_total = length-seen t.buckets ∙ t.bucket_count

  pub string_total : length (table_seen t.strings).numbers ≡ t.counts.names
  string_total = length-seen t.strings ∙ t.string_count

  pub entry_total : length (table_seen t.entries).numbers ≡ t.counts.names
  entry_total = length-seen t.entries ∙ t.entry_count

  pub hash_total : 0 < t.counts.buckets → length (table_seen t.hashes).numbers ≡ t.counts.names
  hash_total some = length-seen t.hashes ∙ t.hash_count ∙ by (eqb t.counts.buckets 0) (ne_eqb t.counts.buckets 0 (λ e. omega (arith, some, e)))
    where
      by : (b : Bool) → b ≡ false → cond b 0 t.counts.names ≡ t.counts.names
      by true e = absurd cc
      by false e = refl

  -- the bucket of a name
  pub own_is : (k : ℕ) → nth (tables_seen t).hashes.numbers k % t.counts.buckets ≡ own (tables_seen t) k
  own_is k = ap (λ (n : ℕ). nth (tables_seen t).hashes.numbers k % n) (sym bucket_total)

  pub string_place : (k : ℕ) → place_in (offset_size t.strings.wide) (table_seen t.strings) k ≡ place_in (offset_size t.wide) (table_seen t.strings) k
  string_place k = ap (λ (w : Bool). place_in (offset_size w) (table_seen t.strings) k) t.string_size

  pub entry_place : (k : ℕ) → place_in (offset_size t.entries.wide) (table_seen t.entries) k ≡ place_in (offset_size t.wide) (table_seen t.entries) k
  entry_place k = ap (λ (w : Bool). place_in (offset_size w) (table_seen t.entries) k) t.entry_size

  pub hash_place : (k : ℕ) → place_in (offset_size t.hashes.wide) (table_seen t.hashes) k ≡ place_in 4 (table_seen t.hashes) k
  hash_place k = ap (λ (w : Bool). place_in (offset_size w) (table_seen t.hashes) k) t.hash_size

  pub bucket_place : (k : ℕ) → place_in (offset_size t.buckets.wide) (table_seen t.buckets) k ≡ place_in 4 (table_seen t.buckets) k
  bucket_place k = ap (λ (w : Bool). place_in (offset_size w) (table_seen t.buckets) k) t.bucket_size

  pub few_names : t.counts.names < 2 ^ 63
  few_names = by t.entries.wide t.entry_count
    where
      by : (w : Bool) → number_count w t.entries.bytes.now ≡ t.counts.names → t.counts.names < 2 ^ 63
      by true e = omega (arith, e, t.entries.ends)
      by false e = omega (arith, e, t.entries.ends)

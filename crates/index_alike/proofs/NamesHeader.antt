-- The header and the tables that were written read back.
use Rattle.std.proofs.Common.{◌≡◌, ℕ, ◌+◌, ◌*◌, ◌<◌, true, false, cond, ltb, eqb, List, [], ◌∷◌, ◌++◌, length, Some, Ok, refl, sym, ap, ◌∙◌, arith, length-append, append_assoc, eq-eqb}
use Rattle.std.specs.Prelude.{All, flat_map}
use Rattle.std.proofs.lemmas.Bool.{lt-ltb}
use Rattle.std.proofs.lemmas.Bool.Decides.{nat_tests}
use Rattle.ix_base.specs.Reading.{Input, number, part, input, initial_length}
use Rattle.index_model.specs.Layout.{u16_bytes, u32_bytes}
use Rattle.index_model.specs.NameTables.{numbers, Table, Counts, counts, Tables, rounded, tables_behind}
use Rattle.index_model.specs.NameHeader.{tables}
use Rattle.index_alike.proofs.NamesNumbers.{from, number_2, number_4, numbers_4, part_is}

-- ---- one reading after the other

counts_steps : (a b c d e f g : ℕ) (i0 i1 i2 i3 i4 i5 i6 i7 : Input) → number 4 i0 ≡ Some (a, i1) → number 4 i1 ≡ Some (b, i2) → number 4 i2 ≡ Some (c, i3) → number 4 i3 ≡ Some (d, i4)
    → number 4 i4 ≡ Some (e, i5) → number 4 i5 ≡ Some (f, i6) → number 4 i6 ≡ Some (g, i7) → counts i0 ≡ Some (record { cus = a; local = b; foreign = c; buckets = d; names = e; abbreviations = f; augmentation = g }, i7)
unfolding counts
counts_steps a b c d e f g i0 i1 i2 i3 i4 i5 i6 i7 h0 h1 h2 h3 h4 h5 h6 = rw (h0, h1, h2, h3, h4, h5, h6) refl

-- a table, as it is read
abbrev table_at : Input → List ℕ → Table
table_at i ns = record { at = i.at; numbers = ns }

behind_steps : (c : Counts) (text units area : Input) (bs hs ss os : List ℕ) (i0 i1 i2 i3 i4 i5 i6 i7 : Input) → part (rounded c.augmentation) i0 ≡ Some (text, i1) → part ((c.cus + c.local) * 4 + c.foreign * 8) i1 ≡ Some (units, i2)
    → numbers 4 c.buckets i2 ≡ Some (bs, i3) → numbers 4 (cond (eqb c.buckets 0) 0 c.names) i3 ≡ Some (hs, i4) → numbers 4 c.names i4 ≡ Some (ss, i5) → numbers 4 c.names i5 ≡ Some (os, i6)
    → part c.abbreviations i6 ≡ Some (area, i7)
    → tables_behind false c i0 ≡ Some (record { wide = false; counts = c; buckets = table_at i2 bs; hashes = table_at i3 hs; strings = table_at i4 ss; entries = table_at i5 os; abbreviations = area; pool = i7 })
unfolding tables_behind
behind_steps c text units area bs hs ss os i0 i1 i2 i3 i4 i5 i6 i7 h0 h1 h2 h3 h4 h5 h6 = rw (h0, h1, h2, h3, h4, h5, h6) refl

tables_steps : (bytes : List ℕ) (n : ℕ) (c : Counts) (t : Tables) (i1 i2 i3 i4 : Input) → initial_length (input bytes 0) ≡ Some (record { length = n; wide = false }, i1) → eqb (i1.at + n) (length bytes) ≡ true
    → number 2 i1 ≡ Some (5, i2) → number 2 i2 ≡ Some (0, i3) → counts i3 ≡ Some (c, i4) → tables_behind false c i4 ≡ Some t → tables bytes ≡ Ok t
unfolding tables
tables_steps bytes n c t i1 i2 i3 i4 h0 same h1 h2 h3 h4 = rw (h0, same, h1, h2, h3, h4) refl

-- ---- each reading

initial_steps : (n : ℕ) (i j : Input) → number 4 i ≡ Some (n, j) → ltb n 0xFFFFFFF0 ≡ true → initial_length i ≡ Some (record { length = n; wide = false }, j)
unfolding initial_length
initial_steps n i j read low = rw (read, low) refl

initial_is : (n : ℕ) (tail : List ℕ) → n < 4294967280 → initial_length (input (u32_bytes n ++ tail) 0) ≡ Some (record { length = n; wide = false }, from 4 tail)
initial_is n tail lt = initial_steps n (input (u32_bytes n ++ tail) 0) (from 4 tail) (number_4 0 n tail (omega arith)) (lt-ltb n 0xFFFFFFF0 lt)

many : (n : ℕ) (xs : List ℕ) (at : ℕ) (tail : List ℕ) → length xs ≡ n → All (λ x. x < 4294967296) xs → numbers 4 n (from at (flat_map u32_bytes xs ++ tail)) ≡ Some (xs, from (at + 4 * length xs) tail)
many n xs at tail size all = ap (λ (k : ℕ). numbers 4 k (from at (flat_map u32_bytes xs ++ tail))) (sym size) ∙ numbers_4 at xs tail all

unless_none : (n : ℕ) → cond (eqb n 0) 0 n ≡ n
unless_none n = grind (arith, nat_tests)

-- ---- the whole

-- what stands in an index: its counts, and behind the lists of units its tables
pub record Parts : Type 0 where
  pub cus : ℕ
  pub local : ℕ
  pub names : ℕ
  pub lists : List ℕ
  pub buckets : List ℕ
  pub hashes : List ℕ
  pub strings : List ℕ
  pub entries : List ℕ
  pub table : List ℕ
  pub pool : List ℕ

-- the numbers in the header
abbrev pub counts_in : Parts → List ℕ
counts_in p = p.cus ∷ p.local ∷ 0 ∷ p.names ∷ p.names ∷ length p.table ∷ 0 ∷ []

-- the bytes behind the length
abbrev pub body_of : Parts → List ℕ
body_of p =
    u16_bytes 5 ++ u16_bytes 0 ++ flat_map u32_bytes (counts_in p) ++ p.lists
    ++ (flat_map u32_bytes p.buckets ++ flat_map u32_bytes p.hashes ++ flat_map u32_bytes p.strings ++ flat_map u32_bytes p.entries) ++ p.table ++ p.pool

abbrev AllFit : List ℕ → Type 0
AllFit ns = All (λ n. n < 4294967296) ns

-- the tables have as many numbers as there are names, and all numbers fit in 4 bytes
pub record AreParts (p : Parts) : Type 0 where
  pub lists : length p.lists ≡ (p.cus + p.local) * 4
  pub buckets : length p.buckets ≡ p.names
  pub hashes : length p.hashes ≡ p.names
  pub strings : length p.strings ≡ p.names
  pub entries : length p.entries ≡ p.names
  pub cus_fit : p.cus < 4294967296
  pub local_fit : p.local < 4294967296
  pub names_fit : p.names < 4294967296
  pub table_fits : length p.table < 4294967296
  pub buckets_fit : AllFit p.buckets
  pub hashes_fit : AllFit p.hashes
  pub strings_fit : AllFit p.strings
  pub entries_fit : AllFit p.entries
  pub short : length (body_of p) < 4294967280

module _ (p : Parts) where
  abbrev counts_are : Counts
  counts_are = record { cus = p.cus; local = p.local; foreign = 0; buckets = p.names; names = p.names; abbreviations = length p.table; augmentation = 0 }

  abbrev behind_lists : ℕ
  behind_lists = 36 + 0 + ((p.cus + p.local) * 4 + 0 * 8)

  abbrev behind_buckets : ℕ
  behind_buckets = behind_lists + 4 * length p.buckets

  abbrev behind_hashes : ℕ
  behind_hashes = behind_buckets + 4 * length p.hashes

  abbrev behind_strings : ℕ
  behind_strings = behind_hashes + 4 * length p.strings

  abbrev behind_entries : ℕ
  behind_entries = behind_strings + 4 * length p.entries

  -- the index, as it is read
  abbrev pub tables_in : Tables
  tables_in = record {
    wide = false;
    counts = counts_are;
    buckets = record { at = behind_lists; numbers = p.buckets };
    hashes = record { at = behind_buckets; numbers = p.hashes };
    strings = record { at = behind_hashes; numbers = p.strings };
    entries = record { at = behind_strings; numbers = p.entries };
    abbreviations = from behind_entries p.table;
    pool = from (behind_entries + length p.table) p.pool;
  }

  -- the bytes behind each part
  abbrev after_entries : List ℕ
  after_entries = p.table ++ p.pool

  abbrev after_strings : List ℕ
  after_strings = flat_map u32_bytes p.entries ++ after_entries

  abbrev after_hashes : List ℕ
  after_hashes = flat_map u32_bytes p.strings ++ after_strings

  abbrev after_buckets : List ℕ
  after_buckets = flat_map u32_bytes p.hashes ++ after_hashes

  abbrev after_lists : List ℕ
  after_lists = flat_map u32_bytes p.buckets ++ after_buckets

  abbrev after_counts : List ℕ
  after_counts = p.lists ++ after_lists

  module _ (h : AreParts p) where
    behind_is : tables_behind false counts_are (from 36 after_counts) ≡ Some tables_in
    behind_is =
        let size : length p.lists ≡ (p.cus + p.local) * 4 + 0 * 8 = omega (arith, h.lists) in
        let hashes : length p.hashes ≡ cond (eqb p.names 0) 0 p.names = h.hashes ∙ sym (unless_none p.names) in
        behind_steps counts_are (from 36 []) (from (36 + 0) p.lists) (from behind_entries p.table) p.buckets p.hashes p.strings p.entries
        (from 36 after_counts) (from (36 + 0) after_counts) (from behind_lists after_lists) (from behind_buckets after_buckets) (from behind_hashes after_hashes) (from behind_strings after_strings) (from behind_entries after_entries) (from (behind_entries + length p.table) p.pool)
        (part_is 36 0 [] after_counts refl)
        (part_is (36 + 0) ((p.cus + p.local) * 4 + 0 * 8) p.lists after_lists size)
        (many p.names p.buckets behind_lists after_buckets h.buckets h.buckets_fit)
        (many (cond (eqb p.names 0) 0 p.names) p.hashes behind_buckets after_hashes hashes h.hashes_fit)
        (many p.names p.strings behind_hashes after_strings h.strings h.strings_fit)
        (many p.names p.entries behind_strings after_entries h.entries h.entries_fit)
        (part_is behind_entries (length p.table) p.table p.pool refl)

    counts_is : counts (from 8 (flat_map u32_bytes (counts_in p) ++ after_counts)) ≡ Some (counts_are, from 36 after_counts)
    counts_is =
        let t6 : List ℕ = u32_bytes 0 ++ after_counts in
        let t5 : List ℕ = u32_bytes (length p.table) ++ t6 in
        let t4 : List ℕ = u32_bytes p.names ++ t5 in
        let t3 : List ℕ = u32_bytes p.names ++ t4 in
        let t2 : List ℕ = u32_bytes 0 ++ t3 in
        let t1 : List ℕ = u32_bytes p.local ++ t2 in
        counts_steps p.cus p.local 0 p.names p.names (length p.table) 0
        (from 8 (u32_bytes p.cus ++ t1)) (from 12 t1) (from 16 t2) (from 20 t3) (from 24 t4) (from 28 t5) (from 32 t6) (from 36 after_counts)
        (number_4 8 p.cus t1 h.cus_fit)
        (number_4 12 p.local t2 h.local_fit)
        (number_4 16 0 t3 (omega arith))
        (number_4 20 p.names t4 h.names_fit)
        (number_4 24 p.names t5 h.names_fit)
        (number_4 28 (length p.table) t6 h.table_fits)
        (number_4 32 0 after_counts (omega arith))

    one_by_one : (a b c d e f g j k l : List ℕ) → ((((((a ++ b) ++ c) ++ d) ++ (((e ++ f) ++ g) ++ j)) ++ k) ++ l) ≡ a ++ (b ++ (c ++ (d ++ (e ++ (f ++ (g ++ (j ++ (k ++ l))))))))
    one_by_one a b c d e f g j k l = simp append_assoc

    body_is : body_of p ≡ u16_bytes 5 ++ (u16_bytes 0 ++ (flat_map u32_bytes (counts_in p) ++ after_counts))
    body_is = one_by_one (u16_bytes 5) (u16_bytes 0) (flat_map u32_bytes (counts_in p)) p.lists (flat_map u32_bytes p.buckets) (flat_map u32_bytes p.hashes) (flat_map u32_bytes p.strings) (flat_map u32_bytes p.entries) p.table p.pool

    whole : (body : List ℕ) → length body < 4294967280 → body ≡ u16_bytes 5 ++ (u16_bytes 0 ++ (flat_map u32_bytes (counts_in p) ++ after_counts)) → tables (u32_bytes (length body) ++ body) ≡ Ok tables_in
    whole body short is =
        let size : length (u32_bytes (length body) ++ body) ≡ 4 + length body = length-append (u32_bytes (length body)) body in
        let rest : List ℕ = flat_map u32_bytes (counts_in p) ++ after_counts in
        tables_steps (u32_bytes (length body) ++ body) (length body) counts_are tables_in (from 4 body) (from 6 (u16_bytes 0 ++ rest)) (from 8 rest) (from 36 after_counts)
        (initial_is (length body) body short)
        (eq-eqb (4 + length body) (length (u32_bytes (length body) ++ body)) (sym size))
        (ap (λ (w : List ℕ). number 2 (from 4 w)) is ∙ number_2 4 5 (u16_bytes 0 ++ rest) (omega arith))
        (number_2 6 0 rest (omega arith))
        counts_is
        behind_is

    -- the index reads as its parts
    pub tables_are : tables (u32_bytes (length (body_of p)) ++ body_of p) ≡ Ok tables_in
    tables_are = whole (body_of p) h.short body_is

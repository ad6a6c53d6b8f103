-- A name: its string, its hash and its entries.
use Rattle.std.proofs.Common.{◌≡◌, ℕ, ◌+◌, ◌-◌, ◌<◌, ◌≤◌, Bool, true, false, ◌&&◌, cond, eqb, leb, List, length, drop, Option, Some, None, Result, Ok, Err, inl, inr, refl, ap, sym, subst, ◌∙◌}
use Rattle.std.specs.Prelude.{IsOk, is_ok}
use Rattle.std.proofs.lemmas.Bool.{cases_lt, eq-eqb, ne_eqb, le-leb, lt-leb}
use Rattle.common_laws.proofs.Ranges.{up_to_more, up_to_none, up_to_all}
use Rattle.ix_base.specs.declared.fault.Fault.{Fault}
use Rattle.ix_base.specs.Reading.{Input, before_zero, past, ◌>>=◌ as ◌>>=?◌}
use Rattle.index_model.specs.declared.index_code.TheConstants.{NAMES_BUCKET, NAMES_HASH, NAMES_STRING_OFFSET, NAMES_ENTRY_POOL}
use Rattle.index_model.specs.Hashes.{name_hash}
use Rattle.index_model.specs.Layout.{below, nth}
use Rattle.index_model.specs.Meaning.{◌>>◌, each, fault, holds_or, some_or, value_of, wrong_in}
use Rattle.index_model.specs.NameAbbreviations.{Abbreviation}
use Rattle.index_model.specs.NameIndexRead.{NameHit, entries_at, entries_of_name, has_hash, is_hashed, is_in_bucket, name_at, place_in, string_of}
use Rattle.index_model.specs.NameTables.{Tables}
use Rattle.index_model.specs.Strings.{offset_size}
use Rattle.index_model.proofs.FirstFaults.{then_none, then_some}
use Rattle.debugnames_read.specs.declared.names.IndexTables.{IndexTables}
use Rattle.debugnames_read.specs.Names.{list_at, string_at, tables_of, up_to}
use Rattle.string_ends.specs.declared.formula.Formula.TheVariants.{NameIndex}
use Rattle.string_ends.specs.declared.hashed.Hashed.{Hashed}
use Rattle.string_ends.specs.Tails.{IsHashed, has_beyond_ascii}
use Rattle.string_ends.specs.Texts.{text_in}
use Rattle.debugnames_read.proofs.Readings.{ok_is, is_ok_by}
use Rattle.debugnames_read.proofs.Opened.{parts}

-- ---- the string of a name

module _ (t : Tables) (strings : List ℕ) (base k : ℕ) where
  abbrev offset : ℕ
  offset = nth t.strings.numbers k

  abbrev pub string_wrong : Fault
  string_wrong = fault NAMES_STRING_OFFSET (place_in (offset_size t.wide) t.strings k)

  abbrev ended : Option (List ℕ) → Result (List ℕ) Fault
  ended o = some_or o string_wrong

  abbrev after : Bool → Option (List ℕ) → Result (List ℕ) Fault
  after b o = holds_or b string_wrong >> ended o

  string_steps : string_of t strings base k ≡ after (leb base offset && leb (offset - base) (length strings)) (before_zero (drop (offset - base) strings))
  unfolding string_of
  string_steps = refl

  pub string_below : offset < base → string_at t strings base k ≡ None
  string_below lt = ap value_of string_steps ∙ rw (lt-leb base offset lt) refl

  value_ended : (o : Option (List ℕ)) → value_of (ended o) ≡ o
  value_ended None = refl
  value_ended (Some s) = refl

  text_by : (b : Bool) (o : Option (List ℕ)) → value_of (after b o) ≡ cond b o None
  text_by true o = value_ended o
  text_by false o = refl

  pub string_from : base ≤ offset → string_at t strings base k ≡ text_in strings (offset - base)
  string_from le = ap value_of string_steps ∙ rw (le-leb base offset le) (text_by (leb (offset - base) (length strings)) (before_zero (drop (offset - base) strings)))

  pub string_fault : string_at t strings base k ≡ None → string_of t strings base k ≡ Err string_wrong
  string_fault e = string_steps ∙ by (leb base offset && leb (offset - base) (length strings)) (before_zero (drop (offset - base) strings)) (ap value_of (sym string_steps) ∙ e)
    where
      by : (b : Bool) (o : Option (List ℕ)) → value_of (after b o) ≡ None → after b o ≡ Err string_wrong
      by false o e = refl
      by true None e = refl
      by true (Some s) e = absurd cc

  pub string_found : (s : List ℕ) → string_at t strings base k ≡ Some s → string_of t strings base k ≡ Ok s
  string_found s e = by (string_of t strings base k) e
    where
      by : (r : Result (List ℕ) Fault) → value_of r ≡ Some s → r ≡ Ok s
      by (Ok x) e = let same : x ≡ s = cc in ap (λ (y : List ℕ). let r : Result (List ℕ) Fault = Ok y in r) same
      by (Err d) e = absurd cc

-- ---- its hash and its bucket

module _ (t : Tables) (k : ℕ) (name : List ℕ) where
  abbrev hash : ℕ
  hash = nth t.hashes.numbers k

  abbrev pub hash_wrong : Fault
  hash_wrong = fault NAMES_HASH (place_in 4 t.hashes k)

  abbrev pub bucket_wrong : Fault
  bucket_wrong = fault NAMES_BUCKET (place_in 4 t.hashes k)

  abbrev tested : Bool → Bool → Result (record {}) Fault
  tested a b = holds_or a hash_wrong >> holds_or b bucket_wrong

  abbrev if_buckets : Bool → Result (record {}) Fault → Result (record {}) Fault
  if_buckets b r = cond b (Ok (record {})) r

  hash_steps : is_hashed t k name ≡ if_buckets (eqb (length t.buckets.numbers) 0) (tested (has_hash name hash) (is_in_bucket t k))
  unfolding is_hashed
  hash_steps = refl

  pub unhashed : length t.buckets.numbers ≡ 0 → is_hashed t k name ≡ Ok (record {})
  unhashed e = hash_steps ∙ rw (eq-eqb (length t.buckets.numbers) 0 e) refl

  module _ (some : length t.buckets.numbers ≡ 0 → ⊥) where
    hashed : is_hashed t k name ≡ tested (has_hash name hash) (is_in_bucket t k)
    hashed = hash_steps ∙ rw (ne_eqb (length t.buckets.numbers) 0 some) refl

    pub other_hash : has_hash name hash ≡ false → is_hashed t k name ≡ Err hash_wrong
    other_hash e = hashed ∙ ap (λ (b : Bool). tested b (is_in_bucket t k)) e

    pub other_bucket : has_hash name hash ≡ true → is_in_bucket t k ≡ false → is_hashed t k name ≡ Err bucket_wrong
    other_bucket e f = hashed ∙ ap (λ (b : Bool). tested b (is_in_bucket t k)) e ∙ ap (tested true) f

    pub right_hash : has_hash name hash ≡ true → is_in_bucket t k ≡ true → is_hashed t k name ≡ Ok (record {})
    right_hash e f = hashed ∙ ap (λ (b : Bool). tested b (is_in_bucket t k)) e ∙ ap (tested true) f

    pub both_right : IsOk (is_hashed t k name) → (has_hash name hash ≡ true) × (is_in_bucket t k ≡ true)
    both_right ok = by (has_hash name hash) (is_in_bucket t k) (ap is_ok (sym hashed) ∙ ok)
      where
        by : (a b : Bool) → is_ok (tested a b) ≡ true → (a ≡ true) × (b ≡ true)
        by true true e = (refl, refl)
        by true false e = absurd cc
        by false b e = absurd cc

-- ---- its entries

module _ (t : Tables) (abbrevs : List Abbreviation) (k : ℕ) where
  abbrev from : ℕ
  from = nth t.entries.numbers k

  abbrev pub pool_wrong : Fault
  pool_wrong = fault NAMES_ENTRY_POOL (place_in (offset_size t.wide) t.entries k)

  abbrev read_at : ℕ → Result (List NameHit) Fault
  read_at n = entries_at t abbrevs (length t.pool.rest + 1) (past n t.pool)

  abbrev if_inside : Bool → ℕ → Result (List NameHit) Fault
  if_inside b n = holds_or b pool_wrong >> read_at n

  entry_steps : entries_of_name t abbrevs k ≡ if_inside (leb from (length t.pool.rest)) from
  unfolding entries_of_name
  entry_steps = refl

  abbrev list_if : Bool → ℕ → Option Input
  list_if b n = cond b (Some (record {}, past n t.pool)) None >>=? λ (x : record {} × Input). Some x.1

  pub no_list : list_at t k ≡ None → entries_of_name t abbrevs k ≡ Err pool_wrong
  no_list e = entry_steps ∙ by (leb from (length t.pool.rest)) e
    where
      by : (b : Bool) → list_if b from ≡ None → if_inside b from ≡ Err pool_wrong
      by true e = absurd cc
      by false e = refl

  pub list_found : (i : Input) → list_at t k ≡ Some i → entries_of_name t abbrevs k ≡ entries_at t abbrevs (length t.pool.rest + 1) i
  list_found i e = entry_steps ∙ by (leb from (length t.pool.rest)) e
    where
      by : (b : Bool) → list_if b from ≡ Some i → if_inside b from ≡ entries_at t abbrevs (length t.pool.rest + 1) i
      by true e = let same : past from t.pool ≡ i = cc in ap (λ (j : Input). entries_at t abbrevs (length t.pool.rest + 1) j) same
      by false e = absurd cc

-- names with one list of entries
module _ (t : Tables) (abbrevs : List Abbreviation) (j k : ℕ) (same : nth t.entries.numbers j ≡ nth t.entries.numbers k) where
  pub same_list : IsOk (entries_of_name t abbrevs j) → wrong_in (entries_of_name t abbrevs k) ≡ None
  same_list ok =
      let first = ap is_ok (sym (entry_steps t abbrevs j)) ∙ ok in
      let second : is_ok (if_inside t abbrevs j (leb (from t abbrevs k) (length t.pool.rest)) (from t abbrevs k)) ≡ true = subst (λ (n : ℕ). is_ok (if_inside t abbrevs j (leb n (length t.pool.rest)) n) ≡ true) same first in
      ap wrong_in (entry_steps t abbrevs k) ∙ by (leb (from t abbrevs k) (length t.pool.rest)) second
    where
      none : (r : Result (List NameHit) Fault) → is_ok r ≡ true → wrong_in r ≡ None
      none (Ok x) e = refl
      none (Err d) e = absurd cc

      by : (b : Bool) → is_ok (if_inside t abbrevs j b (from t abbrevs k)) ≡ true → wrong_in (if_inside t abbrevs k b (from t abbrevs k)) ≡ None
      by true e = none (read_at t abbrevs k (from t abbrevs k)) e
      by false e = absurd cc

-- ---- a name without a fault

module _ (t : Tables) (abbrevs : List Abbreviation) (strings : List ℕ) (base k : ℕ) (right : IsOk (name_at t abbrevs strings base k)) where
  pub entries_right : IsOk (entries_of_name t abbrevs k)
  entries_right =
      let y = ok_is (name_at t abbrevs strings base k) right in
      let p = parts t abbrevs strings base k y.0 y.1 in
      is_ok_by (entries_of_name t abbrevs k) y.0.hits p.entries

  pub bucket_right : (length t.buckets.numbers ≡ 0 → ⊥) → is_in_bucket t k ≡ true
  bucket_right some =
      let y = ok_is (name_at t abbrevs strings base k) right in
      let p = parts t abbrevs strings base k y.0 y.1 in
      (both_right t k y.0.name some p.hashed).1

  pub hash_right : (name : List ℕ) → string_at t strings base k ≡ Some name → (length t.buckets.numbers ≡ 0 → ⊥) → has_hash name (nth t.hashes.numbers k) ≡ true
  hash_right name e some =
      let y = ok_is (name_at t abbrevs strings base k) right in
      let p = parts t abbrevs strings base k y.0 y.1 in
      let text : Some y.0.name ≡ Some name = ap value_of (sym p.text) ∙ e in
      let same : y.0.name ≡ name = cc in
      subst (λ (s : List ℕ). has_hash s (nth t.hashes.numbers k) ≡ true) same (both_right t k y.0.name some p.hashed).0

  pub string_right : (name : List ℕ) × (string_at t strings base k ≡ Some name)
  string_right =
      let y = ok_is (name_at t abbrevs strings base k) right in
      let p = parts t abbrevs strings base k y.0 y.1 in
      (y.0.name, ap value_of p.text)

-- ---- names one after the other

module _ {B : Type 0} (f : ℕ → Result B Fault) where
  -- the first fault of the numbers from i up to n
  abbrev pub fault_from : ℕ → ℕ → Option Fault
  fault_from i n = wrong_in (each f (up_to i n))

  abbrev at_numbers : List ℕ → Option Fault
  at_numbers ks = wrong_in (each f ks)

  pub fault_from_all : (n : ℕ) → fault_from 0 n ≡ wrong_in (each f (below n))
  fault_from_all n = ap at_numbers (up_to_all n)

  pub fault_from_more : (i n : ℕ) → i < n → wrong_in (f i) ≡ None → fault_from i n ≡ fault_from (i + 1) n
  fault_from_more i n lt e = ap at_numbers (up_to_more i n lt) ∙ then_none (f i) (each f (up_to (i + 1) n)) e

  pub fault_from_here : (i n : ℕ) (d : Fault) → i < n → wrong_in (f i) ≡ Some d → fault_from i n ≡ Some d
  fault_from_here i n d lt e = ap at_numbers (up_to_more i n lt) ∙ then_some (f i) (each f (up_to (i + 1) n)) d e

  pub fault_from_none : (i n : ℕ) → n ≤ i → fault_from i n ≡ None
  fault_from_none i n le = ap at_numbers (up_to_none i n le)

-- what is known of the place where the string of a name begins is known of the string
pub hashed_text : (n : IndexTables) (k : ℕ) (h : Hashed) (text : List ℕ) → string_at (tables_of n) n.strings.now n.base k ≡ Some text → IsHashed NameIndex n.strings.now (nth (tables_of n).strings.numbers k - n.base) h → (h.hash ≡ name_hash text) × (h.is_beyond_ascii ≡ has_beyond_ascii text)
hashed_text n k h text there known = elim (cases_lt (nth (tables_of n).strings.numbers k) n.base) as (λ _. (h.hash ≡ name_hash text) × (h.is_beyond_ascii ≡ has_beyond_ascii text)) [
  | inl lt ↦ let none : None ≡ Some text = sym (string_below (tables_of n) n.strings.now n.base k lt) ∙ there in absurd cc
  | inr le ↦
      let own : Some known.text ≡ Some text = sym known.there ∙ sym (string_from (tables_of n) n.strings.now n.base k le) ∙ there in
      let same : known.text ≡ text = cc in
      (known.hash ∙ ap name_hash same, known.beyond ∙ ap has_beyond_ascii same)
]

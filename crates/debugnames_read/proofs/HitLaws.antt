-- The entries of the names that are the name.
use Rattle.std.proofs.Common.{◌≡◌, ◌⊎◌, inl, inr, ℕ, zero, suc, ◌+◌, ◌-◌, ◌<◌, ◌≤◌, Bool, true, false, ◌||◌, cond, eqb, ltb, leb, List, [], ◌∷◌, ◌++◌, length, map, filter, Option, Some, None, Result, Ok, Err, refl, arith, ap, sym, subst, ◌∙◌}
use Rattle.std.specs.Prelude.{IfSome, IsOk, is_ok, find, flat_map, bytes_eq, unwrap_or}
use Rattle.std.specs.List.{enumerate_from, list_any, range_with_len}
use Rattle.std.proofs.lemmas.Bool.{eq-eqb, eqb-true, leb-true, ltb-true, ltb-false, le-leb, lt-leb}
use Rattle.std.proofs.lemmas.List.{length-drop}
use Rattle.std.proofs.lemmas.Slice.Eq.{bytes_eq-Decides}
use Rattle.common_laws.proofs.Ranges.{up_to_more, up_to_none}
use Rattle.common_laws.proofs.Booleans.{not_both_ways}
use Rattle.ix_base.specs.declared.fault.Fault.{Fault}
use Rattle.ix_base.specs.Reading.{Input, past, ◌>>=◌ as ◌>>=?◌}
use Rattle.index_model.specs.declared.index_code.TheConstants.{NAMES_BUCKET}
use Rattle.index_model.specs.Hashes.{name_hash}
use Rattle.index_model.specs.Layout.{below, nth}
use Rattle.index_model.specs.Meaning.{◌>>=◌, each, fault, holds_or, wrong_in}
use Rattle.index_model.specs.NameIndexRead.{entries_at, entries_of_name, has_hash, is_bucket, is_in_bucket, name_index_hits, place_in}
use Rattle.index_model.specs.NameAbbreviations.{Abbreviation}
use Rattle.index_model.specs.NameTables.{Tables}
use Rattle.index_model.specs.Strings.{offset_size}
use Rattle.debugnames_read.specs.declared.buckets.AskedName.{AskedName}
use Rattle.debugnames_read.specs.declared.buckets.NameNumbers.{NameNumbers}
use Rattle.debugnames_read.specs.declared.names.IndexTables.{IndexTables}
use Rattle.debugnames_read.specs.declared.tables.Tables.{Tables as ReadTables}
use Rattle.debugnames_read.specs.Abbreviations.{abbreviations_in}
use Rattle.debugnames_read.specs.Hits.{entries_left, IsList}
use Rattle.debugnames_read.specs.Names.{hits_at, hits_between, index_seen, is_named, is_other_hash, list_at, string_at, tables_of, up_to, Covers, IsHashOf, IsOpened, IsRight}
use Rattle.debugnames_read.specs.Numbers.{number_at, number_count}
use Rattle.debugnames_read.specs.Results.{list_in}
use Rattle.debugnames_read.specs.Tables.{tables_seen}
use Rattle.debugnames_read.proofs.BucketLaws.{all_own, begin, in_bucket, own}
use Rattle.debugnames_read.proofs.Counted.{bucket_total, hash_total}
use Rattle.debugnames_read.proofs.Fuel.{same_entries}
use Rattle.debugnames_read.proofs.NameLaws.{bucket_right, entries_right, fault_from, fault_from_all, hash_right, list_found, no_list, string_right}
use Rattle.debugnames_read.proofs.NumberTables.{number_seen, length-seen}
use Rattle.debugnames_read.proofs.Opened.{each_right, hits_are, name_right}

-- ---- numbers that pass

module _ (p : ℕ → Bool) where
  none_pass : (a m : ℕ) → ((k : ℕ) → a ≤ k → k < a + m → p k ≡ false) → filter p (range_with_len a m) ≡ []
  none_pass a zero out = refl
  none_pass a (suc m) out = rw (out a (omega arith) (omega arith)) (none_pass (a + 1) m (λ k le lt. out k (omega (arith, le)) (omega (arith, lt))))

  past_front : (a m r : ℕ) → ((k : ℕ) → a ≤ k → k < a + m → p k ≡ false) → filter p (range_with_len a (m + r)) ≡ filter p (range_with_len (a + m) r)
  past_front a zero r out =
      let e : a + 0 ≡ a = omega arith in
      let f : 0 + r ≡ r = omega arith in
      rw (e, f) refl
  past_front a (suc m) r out =
      let e : suc m + r ≡ suc (m + r) = omega arith in
      let f : a + suc m ≡ a + 1 + m = omega arith in
      rw (e, f, out a (omega arith) (omega arith)) (past_front (a + 1) m r (λ k le lt. out k (omega (arith, le)) (omega (arith, lt))))

  past_back : (a m r : ℕ) → ((k : ℕ) → a + m ≤ k → k < a + m + r → p k ≡ false) → filter p (range_with_len a (m + r)) ≡ filter p (range_with_len a m)
  past_back a zero r out =
      let f : 0 + r ≡ r = omega arith in
      rw f (none_pass a r (λ k le lt. out k (omega (arith, le)) (omega (arith, lt))))
  past_back a (suc m) r out =
      let e : suc m + r ≡ suc (m + r) = omega arith in
      rw (e, past_back (a + 1) m r (λ k le lt. out k (omega (arith, le)) (omega (arith, lt)))) refl

  -- where all that pass lie in a part, the others needn't be looked at
  pub covered : (count i n : ℕ) → i ≤ n → n ≤ count → ((k : ℕ) → k < count → p k ≡ true → (i ≤ k) × (k < n)) → filter p (below count) ≡ filter p (up_to i n)
  covered count i n order within covers =
      let front : count ≡ i + (n - i + (count - n)) = omega (arith, order, within) in
      let zero_i : 0 + i ≡ i = omega arith in
      ap (λ (m : ℕ). filter p (range_with_len 0 m)) front
      ∙ past_front 0 i (n - i + (count - n)) (λ k le lt. out k (omega (arith, lt, order, within)) (inl (omega (arith, lt))))
      ∙ ap (λ (a : ℕ). filter p (range_with_len a (n - i + (count - n)))) zero_i
      ∙ past_back i (n - i) (count - n) (λ k le lt. out k (omega (arith, lt, order, within)) (inr (omega (arith, le, order))))
    where
      out : (k : ℕ) → k < count → (k < i) ⊎ (n ≤ k) → p k ≡ false
      out k lt elsewhere = by (p k) refl elsewhere
        where
          by : (b : Bool) → p k ≡ b → (k < i) ⊎ (n ≤ k) → b ≡ false
          by false e x = refl
          by true e (inl low) = absurd (omega (arith, low, (covers k lt e).0))
          by true e (inr high) = absurd (omega (arith, high, (covers k lt e).1))

  pub none_found : (ks : List ℕ) → find p ks ≡ None → filter p ks ≡ []
  none_found [] e = refl
  none_found (k ∷ ks) e = elim (p k) as (λ b. cond b (Some k) (find p ks) ≡ None → cond b (k ∷ filter p ks) (filter p ks) ≡ []) [
    | true ↦ λ h. absurd cc
    | false ↦ λ h. none_found ks h
  ] e

  pub record Found (i n k : ℕ) : Type 0 where
    pub from : i ≤ k
    pub to : k < n
    pub passes : p k ≡ true
    pub others : filter p (up_to i n) ≡ k ∷ filter p (up_to (k + 1) n)

  found_in : (m i n k : ℕ) → n ≡ i + m → find p (up_to i n) ≡ Some k → Found i n k
  found_in zero i n k e f = let none : find p (up_to i n) ≡ None = ap (find p) (up_to_none i n (omega (arith, e))) in absurd (clash (sym none ∙ f))
    where
      clash : None ≡ Some k → ⊥
      clash x = cc
  found_in (suc m) i n k e f =
      let more = up_to_more i n (omega (arith, e)) in
      elim (p i) as (λ b. p i ≡ b → cond b (Some i) (find p (up_to (i + 1) n)) ≡ Some k → Found i n k) [
        | true ↦ λ is h.
            let same : i ≡ k = cc in
            let step : filter p (up_to i n) ≡ i ∷ filter p (up_to (i + 1) n) = ap (filter p) more ∙ ap (λ (b : Bool). cond b (i ∷ filter p (up_to (i + 1) n)) (filter p (up_to (i + 1) n))) is in
            subst (λ (j : ℕ). Found i n j) same (record { from = omega arith; to = omega (arith, e); passes = is; others = step })
        | false ↦ λ is h.
            let r = found_in m (i + 1) n k (omega (arith, e)) h in
            record {
              from = omega (arith, r.from);
              to = r.to;
              passes = r.passes;
              others = ap (filter p) more ∙ ap (λ (b : Bool). cond b (i ∷ filter p (up_to (i + 1) n)) (filter p (up_to (i + 1) n))) is ∙ r.others;
            }
      ] refl (sym (ap (find p) more) ∙ f)

  pub found : (i n k : ℕ) → find p (up_to i n) ≡ Some k → Found i n k
  found i n k f = by (ltb i n) refl
    where
      by : (b : Bool) → ltb i n ≡ b → Found i n k
      by true x = found_in (n - i) i n k (omega (arith, ltb-true i n x)) f
      by false x = let none : find p (up_to i n) ≡ None = ap (find p) (up_to_none i n (ltb-false i n x)) in absurd (clash (sym none ∙ f))
        where
          clash : None ≡ Some k → ⊥
          clash x = cc

  -- what a loop over the numbers has left to find
  pub left_more : (i n : ℕ) → i < n → p i ≡ false → find p (up_to i n) ≡ find p (up_to (i + 1) n)
  left_more i n lt e = ap (find p) (up_to_more i n lt) ∙ ap (λ (b : Bool). cond b (Some i) (find p (up_to (i + 1) n))) e

  pub left_here : (i n : ℕ) → i < n → p i ≡ true → find p (up_to i n) ≡ Some i
  left_here i n lt e = ap (find p) (up_to_more i n lt) ∙ ap (λ (b : Bool). cond b (Some i) (find p (up_to (i + 1) n))) e

  pub left_none : (i n : ℕ) → n ≤ i → find p (up_to i n) ≡ None
  left_none i n le = ap (find p) (up_to_none i n le)

-- ---- the buckets

each_map : {A B : Type 0} (f : A → Result B Fault) (g : ℕ → A) (ks : List ℕ) → each f (map g ks) ≡ each (λ k. f (g k)) ks
each_map f g [] = refl
each_map {B = B} f g (k ∷ ks) = ap (λ (r : Result (List B) Fault). f (g k) >>= λ y. r >>= λ ys. Ok (y ∷ ys)) (each_map f g ks)

numbered : (h : ℕ → ℕ) (i m : ℕ) → enumerate_from i (map h (range_with_len i m)) ≡ map (λ k. (k, h k)) (range_with_len i m)
numbered h i zero = refl
numbered h i (suc m) = ap (λ (xs : List (ℕ × ℕ)). (i, h i) ∷ xs) (numbered h (i + 1) m)

module _ (t : ReadTables) where
  -- the bucket with a number
  abbrev pub bucket_at : ℕ → Result (record {}) Fault
  bucket_at k = is_bucket (tables_seen t) (k, number_at (offset_size t.buckets.wide) t.buckets.bytes.now k)

  abbrev count : ℕ
  count = number_count t.buckets.wide t.buckets.bytes.now

  all_by_number : each (is_bucket (tables_seen t)) (enumerate_from 0 (tables_seen t).buckets.numbers) ≡ each bucket_at (below count)
  all_by_number = ap (each (is_bucket (tables_seen t))) (numbered (number_at (offset_size t.buckets.wide) t.buckets.bytes.now) 0 count) ∙ each_map (is_bucket (tables_seen t)) (λ k. (k, number_at (offset_size t.buckets.wide) t.buckets.bytes.now k)) (below count)

  pub all_buckets : (n : ℕ) → n ≡ length (tables_seen t).buckets.numbers → fault_from bucket_at 0 n ≡ wrong_in (each (is_bucket (tables_seen t)) (enumerate_from 0 (tables_seen t).buckets.numbers))
  all_buckets n e = fault_from_all bucket_at n ∙ ap (λ (m : ℕ). wrong_in (each bucket_at (below m))) (e ∙ length-seen t.buckets) ∙ sym (ap wrong_in all_by_number)

  held : (b : Bool) (d : Fault) → IsOk (holds_or b d) → b ≡ true
  held true d e = refl
  held false d e = absurd cc

  -- a bucket without a fault begins at a name
  pub begins_at : IsOk (each (is_bucket (tables_seen t)) (enumerate_from 0 (tables_seen t).buckets.numbers)) → (k : ℕ) → k < t.counts.buckets → nth (tables_seen t).buckets.numbers k ≤ t.counts.names
  begins_at ok k lt =
      let within : k < length (tables_seen t).buckets.numbers = omega (arith, lt, bucket_total t) in
      let one = each_right bucket_at 0 count k (ap is_ok (sym all_by_number) ∙ ok) (omega arith) (omega (arith, within, length-seen t.buckets)) in
      let le = leb-true (number_at (offset_size t.buckets.wide) t.buckets.bytes.now k) t.counts.names (held (leb (number_at (offset_size t.buckets.wide) t.buckets.bytes.now k) t.counts.names) (fault NAMES_BUCKET (place_in 4 (tables_seen t).buckets k)) one) in
      omega (arith, le, number_seen t.buckets k within)

  module _ (k : ℕ) (within : k < length (tables_seen t).buckets.numbers) where
    pub bucket_past : t.counts.names < nth (tables_seen t).buckets.numbers k → wrong_in (bucket_at k) ≡ Some (fault NAMES_BUCKET (place_in 4 (tables_seen t).buckets k))
    bucket_past lt = ap (λ (b : Bool). wrong_in (holds_or b (fault NAMES_BUCKET (place_in 4 (tables_seen t).buckets k)))) (lt-leb (number_at (offset_size t.buckets.wide) t.buckets.bytes.now k) t.counts.names (omega (arith, lt, number_seen t.buckets k within)))

    pub bucket_inside : nth (tables_seen t).buckets.numbers k ≤ t.counts.names → wrong_in (bucket_at k) ≡ None
    bucket_inside le = ap (λ (b : Bool). wrong_in (holds_or b (fault NAMES_BUCKET (place_in 4 (tables_seen t).buckets k)))) (le-leb (number_at (offset_size t.buckets.wide) t.buckets.bytes.now k) t.counts.names (omega (arith, le, number_seen t.buckets k within)))

-- ---- names of an index without a fault

module _ (n : IndexTables) (opened : IsOpened n) where
  abbrev t : Tables
  t = tables_of n

  abbrev abbrevs : List Abbreviation
  abbrevs = abbreviations_in t.abbreviations

  pub right_at : (k : ℕ) → k < t.counts.names → IsRight n k
  right_at k lt = name_right t n.strings.now n.base opened k lt

  pub text_at : (k : ℕ) → k < t.counts.names → (s : List ℕ) × (string_at t n.strings.now n.base k ≡ Some s)
  text_at k lt = string_right t abbrevs n.strings.now n.base k (right_at k lt)

  -- a name that is found by its hash has the hash
  pub named_hash : (name : List ℕ) (h k : ℕ) → h ≡ name_hash name → list_any (λ c. leb 0x80 c) name ≡ false → 0 < t.counts.buckets → k < t.counts.names → is_named n name k ≡ true → nth t.hashes.numbers k ≡ h
  named_hash name h k is plain some lt named =
      let s = text_at k lt in
      let same : s.0 ≡ name = (bytes_eq-Decides s.0 name).0 (ap (λ (o : Option (List ℕ)). bytes_eq (unwrap_or o []) name) (sym s.1) ∙ named) in
      let none : length t.buckets.numbers ≡ 0 → ⊥ = λ e. absurd (omega (arith, e, some, bucket_total n.tables)) in
      let has : has_hash name (nth t.hashes.numbers k) ≡ true = hash_right t abbrevs n.strings.now n.base k (right_at k lt) name (s.1 ∙ ap (λ (x : List ℕ). let o : Option (List ℕ) = Some x in o) same) none in
      eqb-true (nth t.hashes.numbers k) (name_hash name) (by (list_any (λ c. leb 0x80 c) name) plain has) ∙ sym is
    where
      by : (b : Bool) → b ≡ false → (b || eqb (nth t.hashes.numbers k) (name_hash name)) ≡ true → eqb (nth t.hashes.numbers k) (name_hash name) ≡ true
      by true e f = absurd cc
      by false e f = f

  -- where the entries of a name begin they have no fault, and they are the name's
  pub record ListOf (k : ℕ) (o : Option Input) : Type 0 where
    pub hits : entries_left t o ≡ hits_at t k
    pub ok : IsList t o

  pub list_of : (k : ℕ) → k < t.counts.names → (o : Option Input) → o ≡ list_at t k → ListOf k o
  list_of k lt None e = absurd (clash (no_list t abbrevs k (sym e)) (entries_right t abbrevs n.strings.now n.base k (right_at k lt)))
    where
      clash : {d : Fault} → entries_of_name t abbrevs k ≡ Err d → IsOk (entries_of_name t abbrevs k) → ⊥
      clash x ok = let wrong = ap is_ok (sym x) ∙ ok in absurd cc
  list_of k lt (Some i) e =
      let whole = list_found t abbrevs k i (sym e) in
      let short : length i.rest ≤ length t.pool.rest = shorter (leb (nth t.entries.numbers k) (length t.pool.rest)) (sym e) in
      let same : entries_at t abbrevs (length i.rest + 1) i ≡ entries_of_name t abbrevs k = same_entries t abbrevs (length i.rest + 1) (length t.pool.rest + 1) i (omega arith) (omega (arith, short)) ∙ sym whole in
      record { hits = ap list_in same; ok = ap is_ok same ∙ entries_right t abbrevs n.strings.now n.base k (right_at k lt) }
    where
      shorter : (b : Bool) → (cond b (Some (record {}, past (nth t.entries.numbers k) t.pool)) None >>=? λ (x : record {} × Input). Some x.1) ≡ Some i → length i.rest ≤ length t.pool.rest
      shorter true x = let same : past (nth t.entries.numbers k) t.pool ≡ i = cc in omega (arith, ap (λ (j : Input). length j.rest) same, length-drop (nth t.entries.numbers k) t.pool.rest)
      shorter false x = absurd cc

  -- all entries of a name lie in what covers it
  pub all_hits : (name : List ℕ) (s : NameNumbers) → s.from ≤ s.to → s.to ≤ t.counts.names → Covers n name s → name_index_hits (index_seen n) name ≡ hits_between n name s.from s.to
  all_hits name s order within covers =
      hits_are t n.strings.now n.base opened name
      ∙ ap (flat_map (hits_at t)) (covered (is_named n name) t.counts.names s.from s.to order within covers)

  pub no_hits : (name : List ℕ) (i to : ℕ) → find (is_named n name) (up_to i to) ≡ None → hits_between n name i to ≡ []
  no_hits name i to e = ap (flat_map (hits_at t)) (none_found (is_named n name) (up_to i to) e)

  pub one_hit : (name : List ℕ) (i to k : ℕ) → find (is_named n name) (up_to i to) ≡ Some k → hits_between n name i to ≡ hits_at t k ++ hits_between n name (k + 1) to
  one_hit name i to k e = ap (flat_map (hits_at t)) (found (is_named n name) i to k e).others

  -- the name that was found is the one that was looked for
  pub same_name : (name : List ℕ) (k : ℕ) (s : List ℕ) → string_at t n.strings.now n.base k ≡ Some s → is_named n name k ≡ true → s ≡ name
  same_name name k s e named = (bytes_eq-Decides s name).0 (ap (λ (o : Option (List ℕ)). bytes_eq (unwrap_or o []) name) (sym e) ∙ named)

  -- the names of the bucket of a hash
  module _ (some : 0 < t.counts.buckets) (k : ℕ) (lt : k < t.counts.names) where
    in_its_bucket : is_in_bucket t k ≡ true
    in_its_bucket = bucket_right t abbrevs n.strings.now n.base k (right_at k lt) (λ e. absurd (omega (arith, e, some, bucket_total n.tables)))

    pub record OfBucket : Type 0 where
      pub some_begin : 0 < begin t k
      pub from : begin t k - 1 ≤ k
      pub own_names : (i : ℕ) → begin t k - 1 ≤ i → i ≤ k → own t i ≡ own t k

    pub of_bucket : OfBucket
    of_bucket =
        let p = in_bucket t k in_its_bucket in
        record { some_begin = p.some; from = omega (arith, p.before); own_names = all_own t k (omega (arith, lt, hash_total n.tables some)) in_its_bucket }

  -- a name with another hash isn't the one that is looked for
  pub other_name : (s : AskedName) (k : ℕ) → IsHashOf t s → k < t.counts.names → is_other_hash t k s.hash ≡ true → is_named n s.name.now k ≡ false
  other_name s k hash lt other = by s.hash hash other (is_named n s.name.now k) refl
    where
      by : (o : Option ℕ) → IfSome o (λ h. (h ≡ name_hash s.name.now) × (list_any (λ c. leb 0x80 c) s.name.now ≡ false) × (0 < t.counts.buckets)) → is_other_hash t k o ≡ true → (b : Bool) → is_named n s.name.now k ≡ b → b ≡ false
      by None hash other b is = absurd cc
      by (Some h) hash other false is = refl
      by (Some h) hash other true is = absurd (not_both_ways (eqb (nth t.hashes.numbers k) h) other (eq-eqb (nth t.hashes.numbers k) h (named_hash s.name.now h k hash.0 hash.1 hash.2 lt is)))

  -- a name of an index without a fault has a string
  pub has_text : (k : ℕ) → k < t.counts.names → None ≡ string_at t n.strings.now n.base k → ⊥
  has_text k lt e = let s = text_at k lt in clash (e ∙ s.1)
    where
      clash : {s : List ℕ} → None ≡ Some s → ⊥
      clash x = cc

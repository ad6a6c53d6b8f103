-- How many entries a name has in an index within the limit of a file.
use Rattle.std.proofs.Common.{◌≡◌, ℕ, zero, suc, ◌+◌, ◌*◌, ◌^◌, ◌<◌, ◌≤◌, Bool, true, false, cond, leb, eqb, ltb, List, [], ◌∷◌, length, flat_map, filter, Option, Some, None, Result, Ok, Err, refl, subst, arith, length-append}
use Rattle.std.specs.Prelude.{IfOk, IfSome, bytes_eq}
use Rattle.std.specs.List.{enumerate_from}
use Rattle.std.proofs.lemmas.Bool.{leb-true}
use Rattle.std.proofs.lemmas.List.{length-drop}
use Rattle.std.proofs.lemmas.List.FromFn.{length-range_with_len}
use Rattle.ix_base.specs.declared.fault.Fault.{Fault}
use Rattle.ix_base.specs.declared.limits.TheConstants.{MAX_FILE_BYTES}
use Rattle.ix_base.specs.Reading.{Input, input, number, part, past, uleb, initial_length, ◌>>=◌ as ◌>>=?◌}
use Rattle.index_model.specs.Meaning.{◌>>=◌, ◌>>◌, each, some_or}
use Rattle.index_model.specs.Layout.{below}
use Rattle.index_model.specs.Strings.{offset_size}
use Rattle.index_model.specs.NameAbbreviations.{Abbreviation, abbreviations}
use Rattle.index_model.specs.NameHeader.{tables}
use Rattle.index_model.specs.NameTables.{Counts, Tables, counts, numbers, table, tables_behind}
use Rattle.index_model.specs.NameIndexRead.{Name, NameIndex, entries_at, entries_of_name, entry_with, is_bucket, is_hashed, name_at, name_index, name_index_hits, string_of}

-- ---- what holds of a value, step by step

if_bind : {A B : Type 0} (r : Option A) (f : A → Option B) (P : A → Type 0) (Q : B → Type 0) → IfSome r P → ((x : A) → P x → IfSome (f x) Q) → IfSome (r >>=? f) Q
if_bind None f P Q p q = tt
if_bind (Some x) f P Q p q = q x p

ok_bind : {A B : Type 0} (r : Result A Fault) (f : A → Result B Fault) (P : A → Type 0) (Q : B → Type 0) → IfOk r P → ((x : A) → P x → IfOk (f x) Q) → IfOk (r >>= f) Q
ok_bind (Err e) f P Q p q = tt
ok_bind (Ok x) f P Q p q = q x p

ok_any : {A B : Type 0} (r : Result A Fault) (f : A → Result B Fault) (Q : B → Type 0) → ((x : A) → IfOk (f x) Q) → IfOk (r >>= f) Q
ok_any (Err e) f Q q = tt
ok_any (Ok x) f Q q = q x

ok_then : {A B : Type 0} (r : Result A Fault) (s : Result B Fault) (Q : B → Type 0) → IfOk s Q → IfOk (r >> s) Q
ok_then (Err e) s Q q = tt
ok_then (Ok x) s Q q = q

ok_some : {A : Type 0} (o : Option A) (e : Fault) (P : A → Type 0) → IfSome o P → IfOk (some_or o e) P
ok_some None e P p = tt
ok_some (Some x) e P p = p

ok_cond : {A : Type 0} (b : Bool) (r s : Result A Fault) (P : A → Type 0) → IfOk r P → IfOk s P → IfOk (cond b r s) P
ok_cond true r s P p q = p
ok_cond false r s P p q = q

some_cond : {A : Type 0} (b : Bool) (r s : Option A) (P : A → Type 0) → IfSome r P → IfSome s P → IfSome (cond b r s) P
some_cond true r s P p q = p
some_cond false r s P p q = q

-- ---- a reading leaves no more than there was

abbrev Leaves : {A : Type 0} → ℕ → A × Input → Type 0
Leaves n x = length x.1.rest ≤ n

number_leaves : (size n : ℕ) (i : Input) → length i.rest ≤ n → IfSome (number size i) (Leaves n)
number_leaves size n i le = some_cond (leb size (length i.rest)) _ None (Leaves n) (omega (arith, le, length-drop size i.rest)) tt

part_leaves : (size n : ℕ) (i : Input) → length i.rest ≤ n → IfSome (part size i) (Leaves n)
part_leaves size n i le = some_cond (leb size (length i.rest)) _ None (Leaves n) (omega (arith, le, length-drop size i.rest)) tt

-- a number takes a byte
abbrev Takes : {A : Type 0} → ℕ → Input → A × Input → Type 0
Takes count i x = count + length x.1.rest ≤ length i.rest

number_takes : (size : ℕ) (i : Input) → 1 ≤ size → IfSome (number size i) (Takes 1 i)
number_takes size i some = by (leb size (length i.rest)) _ refl
  where
    by : (b : Bool) (v : ℕ) → leb size (length i.rest) ≡ b → IfSome (cond b (Some (v, past size i)) None) (Takes 1 i)
    by true v e = omega (arith, leb-true size (length i.rest) e, some, length-drop size i.rest)
    by false v e = tt

numbers_take : (size count : ℕ) (i : Input) → 1 ≤ size → IfSome (numbers size count i) (Takes count i)
unfolding numbers
numbers_take size zero i some = omega arith
numbers_take size (suc count) i some =
    if_bind (number size i) _ (Takes 1 i) (Takes (suc count) i) (number_takes size i some)
    (λ first one. if_bind (numbers size count first.1) _ (Takes count first.1) (Takes (suc count) i) (numbers_take size count first.1 some) (λ others more. omega (arith, one, more)))

table_takes : (size count : ℕ) (i : Input) → 1 ≤ size → IfSome (table size count i) (Takes count i)
table_takes size count i some = if_bind (numbers size count i) _ (Takes count i) (Takes count i) (numbers_take size count i some) (λ ns more. more)

has_size : (wide : Bool) → 1 ≤ offset_size wide
has_size true = omega arith
has_size false = omega arith

-- ---- the tables

module _ (n : ℕ) where
  -- there are no more names, and no more bytes of entries, than bytes
  abbrev IsWithin : Tables → Type 0
  IsWithin t = (t.counts.names ≤ n) × (length t.pool.rest ≤ n)

  behind_within : (wide : Bool) (c : Counts) (i : Input) → length i.rest ≤ n → IfSome (tables_behind wide c i) IsWithin
  unfolding tables_behind
  behind_within wide c i le =
      if_bind (part _ i) _ (Leaves n) IsWithin (part_leaves _ n i le)
      (λ text le_text. if_bind (part _ text.1) _ (Leaves n) IsWithin (part_leaves _ n text.1 le_text)
      (λ units le_units. if_bind (table 4 c.buckets units.1) _ (Takes c.buckets units.1) IsWithin (table_takes 4 c.buckets units.1 (omega arith))
      (λ buckets le_buckets. if_bind (table 4 _ buckets.1) _ (Takes _ buckets.1) IsWithin (table_takes 4 _ buckets.1 (omega arith))
      (λ hashes le_hashes. if_bind (table (offset_size wide) c.names hashes.1) _ (Takes c.names hashes.1) IsWithin (table_takes (offset_size wide) c.names hashes.1 (has_size wide))
      (λ strings le_strings. if_bind (table (offset_size wide) c.names strings.1) _ (Takes c.names strings.1) IsWithin (table_takes (offset_size wide) c.names strings.1 (has_size wide))
      (λ entries le_entries. if_bind (part c.abbreviations entries.1) _ (Leaves n) IsWithin (part_leaves c.abbreviations n entries.1 (omega (arith, le_units, le_buckets, le_hashes, le_strings, le_entries)))
      (λ area le_area. (omega (arith, le_units, le_buckets, le_hashes, le_strings), le_area))))))))

  counts_leave : (i : Input) → length i.rest ≤ n → IfSome (counts i) (Leaves n)
  unfolding counts
  counts_leave i le =
      if_bind (number 4 i) _ (Leaves n) (Leaves n) (number_leaves 4 n i le)
      (λ cus le1. if_bind (number 4 cus.1) _ (Leaves n) (Leaves n) (number_leaves 4 n cus.1 le1)
      (λ local le2. if_bind (number 4 local.1) _ (Leaves n) (Leaves n) (number_leaves 4 n local.1 le2)
      (λ foreign le3. if_bind (number 4 foreign.1) _ (Leaves n) (Leaves n) (number_leaves 4 n foreign.1 le3)
      (λ buckets le4. if_bind (number 4 buckets.1) _ (Leaves n) (Leaves n) (number_leaves 4 n buckets.1 le4)
      (λ names le5. if_bind (number 4 names.1) _ (Leaves n) (Leaves n) (number_leaves 4 n names.1 le5)
      (λ abbrevs le6. if_bind (number 4 abbrevs.1) _ (Leaves n) (Leaves n) (number_leaves 4 n abbrevs.1 le6) (λ augmentation le7. le7)))))))

  length_leaves : (i : Input) → length i.rest ≤ n → IfSome (initial_length i) (Leaves n)
  unfolding initial_length
  length_leaves i le =
      if_bind (number 4 i) _ (Leaves n) (Leaves n) (number_leaves 4 n i le)
      (λ short le1. some_cond (ltb short.0 0xFFFFFFF0) _ _ (Leaves n) le1
      (some_cond (eqb short.0 0xFFFFFFFF) _ _ (Leaves n) (if_bind (number 8 short.1) _ (Leaves n) (Leaves n) (number_leaves 8 n short.1 le1) (λ long le2. le2)) tt))

  tables_within : (bytes : List ℕ) → length bytes ≤ n → IfOk (tables bytes) IsWithin
  unfolding tables
  tables_within bytes le =
      ok_bind (some_or (initial_length (input bytes 0)) _) _ (Leaves n) IsWithin (ok_some _ _ (Leaves n) (length_leaves (input bytes 0) le))
      (λ len le1. ok_then _ _ IsWithin (ok_bind (some_or (number 2 len.1) _) _ (Leaves n) IsWithin (ok_some _ _ (Leaves n) (number_leaves 2 n len.1 le1))
      (λ version le2. ok_then _ _ IsWithin (ok_bind (some_or (number 2 version.1) _) _ (Leaves n) IsWithin (ok_some _ _ (Leaves n) (number_leaves 2 n version.1 le2))
      (λ padding le3. ok_some _ _ IsWithin (if_bind (counts padding.1) _ (Leaves n) IsWithin (counts_leave padding.1 le3) (λ c le4. behind_within len.0.wide c.0 c.1 le4)))))))

-- ---- the entries

abbrev AtMost : {A : Type 0} → ℕ → List A → Type 0
AtMost n xs = length xs ≤ n

module _ (t : Tables) (abbrevs : List Abbreviation) where
  entries_few : (most : ℕ) (i : Input) → IfOk (entries_at t abbrevs most i) (AtMost most)
  unfolding entries_at
  entries_few zero i = tt
  entries_few (suc most) i =
      ok_any (some_or (uleb i) _) _ (AtMost (suc most))
      (λ code. ok_cond (eqb code.0 0) _ _ (AtMost (suc most)) (omega arith)
      (ok_any (some_or (entry_with t abbrevs code.0 code.1) _) _ (AtMost (suc most))
      (λ first. ok_bind (entries_at t abbrevs most first.1) _ (AtMost most) (AtMost (suc most)) (entries_few most first.1) (λ others le. omega (arith, le)))))

  name_few : (strings : List ℕ) (base k : ℕ) → IfOk (name_at t abbrevs strings base k) (λ name. length name.hits ≤ length t.pool.rest + 1)
  unfolding name_at entries_of_name
  name_few strings base k =
      ok_any (string_of t strings base k) _ _
      (λ name. ok_then (is_hashed t k name) _ _
      (ok_bind (entries_of_name t abbrevs k) _ (AtMost (length t.pool.rest + 1)) _ (ok_then _ _ (AtMost (length t.pool.rest + 1)) (entries_few (length t.pool.rest + 1) _)) (λ hits le. le)))

-- each of the names has at most so many entries
abbrev AllFew : ℕ → List Name → Type 0
AllFew n [] = Unit {0}
AllFew n (name ∷ names) = (length name.hits ≤ n) × AllFew n names

each_few : (n : ℕ) (f : ℕ → Result Name Fault) → ((k : ℕ) → IfOk (f k) (λ name. length name.hits ≤ n)) → (ks : List ℕ) → IfOk (each f ks) (λ names. AllFew n names × (length names ≡ length ks))
each_few n f few [] = (tt, refl)
each_few n f few (k ∷ ks) =
    ok_bind (f k) _ (λ name. length name.hits ≤ n) _ (few k)
    (λ name le. ok_bind (each f ks) _ (λ names. AllFew n names × (length names ≡ length ks)) _ (each_few n f few ks) (λ names all. ((le, all.0), omega (arith, all.1))))

-- the limit of a file, and a byte more
abbrev limit : ℕ
limit = 1073741824

hits_few : (n : ℕ) (p : Name → Bool) (names : List Name) → n ≤ limit + 1 → AllFew n names → length (flat_map (λ name. name.hits) (filter p names)) ≤ length names * (limit + 1)
hits_few n p [] le all = omega arith
hits_few n p (name ∷ names) le all = by (p name) (hits_few n p names le all.1)
  where
    by : (b : Bool) → length (flat_map (λ name. name.hits) (filter p names)) ≤ length names * (limit + 1) → length (flat_map (λ name. name.hits) (cond b (name ∷ filter p names) (filter p names))) ≤ length (name ∷ names) * (limit + 1)
    by true more = omega (arith, le, all.0, more, length-append name.hits (flat_map (λ name. name.hits) (filter p names)))
    by false more = omega (arith, more)

abbrev IsFew : NameIndex → Type 0
IsFew index = (n : ℕ) × (n ≤ limit + 1) × AllFew n index.names × (length index.names ≤ limit)

index_few : (bytes strings : List ℕ) (base : ℕ) → length bytes ≤ limit → IfOk (name_index bytes strings base) IsFew
unfolding name_index
index_few bytes strings base le =
    ok_bind (tables bytes) _ (IsWithin limit) IsFew (tables_within limit bytes le)
    (λ t within. ok_any (abbreviations t.abbreviations) _ IsFew
    (λ abbrevs. ok_then (each (is_bucket t) (enumerate_from 0 t.buckets.numbers)) _ IsFew
    (ok_bind (each (name_at t abbrevs strings base) (below t.counts.names)) _ (λ names. AllFew (length t.pool.rest + 1) names × (length names ≡ length (below t.counts.names))) IsFew (each_few (length t.pool.rest + 1) (name_at t abbrevs strings base) (λ k. name_few t abbrevs strings base k) (below t.counts.names))
    (λ names all. (length t.pool.rest + 1, omega (arith, within.1), all.0, omega (arith, all.1, within.0, length-range_with_len 0 t.counts.names))))))

-- their number fits in 64 bits
pub hits_fit : (bytes strings : List ℕ) (base : ℕ) (index : NameIndex) (name : List ℕ) → name_index bytes strings base ≡ Ok index → length bytes ≤ MAX_FILE_BYTES → length (name_index_hits index name) < 2 ^ 64
hits_fit bytes strings base index name is le =
    let few : IsFew index = subst (λ (r : Result NameIndex Fault). IfOk r IsFew) is (index_few bytes strings base le) in
    let total = hits_few few.0 (λ n. bytes_eq n.name name) index.names few.1 few.2 in
    omega (arith, total, few.3)

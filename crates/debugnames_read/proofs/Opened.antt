-- What an index without a fault has, name by name.
use Rattle.std.proofs.Common.{◌≡◌, ◌⊎◌, inl, inr, ℕ, zero, suc, ◌+◌, ◌<◌, ◌≤◌, Bool, true, false, cond, List, [], ◌∷◌, filter, Some, None, Result, Ok, Err, refl, arith, ap, sym, subst, ◌∙◌}
use Rattle.std.specs.Prelude.{IsOk, is_ok, flat_map, bytes_eq, unwrap_or}
use Rattle.std.specs.List.{enumerate_from, range_with_len}
use Rattle.ix_base.specs.declared.fault.Fault.{Fault}
use Rattle.index_model.specs.Meaning.{◌>>=◌, ◌>>◌, each, value_of, wrong_in}
use Rattle.index_model.specs.Layout.{below}
use Rattle.index_model.specs.NameAbbreviations.{Abbreviation, abbreviations}
use Rattle.index_model.specs.NameHeader.{tables}
use Rattle.index_model.specs.NameIndexRead.{Name, NameHit, NameIndex, entries_of_name, is_bucket, is_hashed, name_at, name_index, name_index_hits, string_of}
use Rattle.index_model.specs.NameTables.{Tables}
use Rattle.index_model.proofs.LookupLaws.{bind_ok}
use Rattle.debugnames_read.specs.Abbreviations.{abbreviations_in}
use Rattle.debugnames_read.specs.Names.{hits_at, index_in, index_of, string_at}
use Rattle.debugnames_read.specs.Results.{list_in}
use Rattle.debugnames_read.proofs.Readings.{ok_is, is_ok_by}

-- ---- one name

module _ (t : Tables) (abbrevs : List Abbreviation) (strings : List ℕ) (base k : ℕ) where
  pub record Parts (y : Name) : Type 0 where
    pub text : string_of t strings base k ≡ Ok y.name
    pub hashed : IsOk (is_hashed t k y.name)
    pub entries : entries_of_name t abbrevs k ≡ Ok y.hits

  abbrev made : List ℕ → List NameHit → Result Name Fault
  made name hits = Ok (record { name = name; hits = hits })

  abbrev then_entries : List ℕ → Result Name Fault
  then_entries name = entries_of_name t abbrevs k >>= made name

  abbrev then_hash : List ℕ → Result Name Fault
  then_hash name = is_hashed t k name >>= λ _. then_entries name

  in_steps : name_at t abbrevs strings base k ≡ (string_of t strings base k >>= then_hash)
  unfolding name_at
  in_steps = by (string_of t strings base k)
    where
      by_hash : (name : List ℕ) (r : Result (record {}) Fault) → (r >> then_entries name) ≡ (r >>= λ _. then_entries name)
      by_hash name (Ok x) = refl
      by_hash name (Err d) = refl

      by : (r : Result (List ℕ) Fault) → (r >>= λ name. is_hashed t k name >> then_entries name) ≡ (r >>= then_hash)
      by (Ok name) = by_hash name (is_hashed t k name)
      by (Err d) = refl

  pub parts : (y : Name) → name_at t abbrevs strings base k ≡ Ok y → Parts y
  parts y e =
      let a = bind_ok (string_of t strings base k) then_hash y (sym in_steps ∙ e) in
      let b = bind_ok (is_hashed t k a.0) (λ _. then_entries a.0) y a.2 in
      let c = bind_ok (entries_of_name t abbrevs k) (made a.0) y b.2 in
      let same : record { name = a.0; hits = c.0 } ≡ y = cc in
      let name : a.0 ≡ y.name = ap (λ (n : Name). n.name) same in
      let hits : c.0 ≡ y.hits = ap (λ (n : Name). n.hits) same in
      record {
        text = a.1 ∙ ap (λ (s : List ℕ). let r : Result (List ℕ) Fault = Ok s in r) name;
        hashed = subst (λ (s : List ℕ). IsOk (is_hashed t k s)) name (is_ok_by (is_hashed t k a.0) b.0 b.1);
        entries = c.1 ∙ ap (λ (s : List NameHit). let r : Result (List NameHit) Fault = Ok s in r) hits;
      }

  -- ---- its first fault

  pub no_text : (d : Fault) → string_of t strings base k ≡ Err d → name_at t abbrevs strings base k ≡ Err d
  no_text d e = in_steps ∙ rw e refl

  module _ (name : List ℕ) (text : string_of t strings base k ≡ Ok name) where
    pub no_hash : (d : Fault) → is_hashed t k name ≡ Err d → name_at t abbrevs strings base k ≡ Err d
    no_hash d e = in_steps ∙ rw (text, e) refl

    pub as_entries : is_hashed t k name ≡ Ok (record {}) → wrong_in (name_at t abbrevs strings base k) ≡ wrong_in (entries_of_name t abbrevs k)
    as_entries e = ap wrong_in in_steps ∙ rw (text, e) (made_last (entries_of_name t abbrevs k))
      where
        made_last : (r : Result (List NameHit) Fault) → wrong_in (r >>= made name) ≡ wrong_in r
        made_last (Ok x) = refl
        made_last (Err d) = refl

-- ---- all names

module _ {A B : Type 0} (f : A → Result B Fault) where
  abbrev with_first : Result B Fault → Result (List B) Fault → Result (List B) Fault
  with_first r rest = r >>= λ y. rest >>= λ ys. Ok (y ∷ ys)

  both_ok : (r : Result B Fault) (rest : Result (List B) Fault) → IsOk (with_first r rest) → (is_ok r ≡ true) × (is_ok rest ≡ true)
  both_ok (Ok y) (Ok ys) e = (refl, refl)
  both_ok (Ok y) (Err d) e = absurd cc
  both_ok (Err d) rest e = absurd cc

pub each_right : {B : Type 0} (f : ℕ → Result B Fault) (a n k : ℕ) → IsOk (each f (range_with_len a n)) → a ≤ k → k < a + n → IsOk (f k)
each_right f a zero k e le lt = absurd (omega (arith, le, lt))
each_right f a (suc n) k e le lt =
    let b = both_ok f (f a) (each f (range_with_len (a + 1) n)) e in
    by b.0 (λ more. each_right f (a + 1) n k b.1 more (omega (arith, lt))) first_or
  where
    first_or : (a ≡ k) ⊎ (a + 1 ≤ k)
    first_or = grind (arith, le)

    by : IsOk (f a) → (a + 1 ≤ k → IsOk (f k)) → (a ≡ k) ⊎ (a + 1 ≤ k) → IsOk (f k)
    by here later (inl e) = subst (λ (j : ℕ). IsOk (f j)) e here
    by here later (inr more) = later more

module _ (t : Tables) (strings : List ℕ) (base : ℕ) where
  abbrev names_by : List Abbreviation → List ℕ → Result (List Name) Fault
  names_by abbrevs ks = each (name_at t abbrevs strings base) ks

  -- ---- the hits of a name

  module _ (name : List ℕ) where
    abbrev has_name : Name → Bool
    has_name y = bytes_eq y.name name

    abbrev named : ℕ → Bool
    named k = bytes_eq (unwrap_or (string_at t strings base k) []) name

    abbrev hits_of : Name → List NameHit
    hits_of y = y.hits

    pub hits_by_number : (ks : List ℕ) (ys : List Name) → names_by (abbreviations_in t.abbreviations) ks ≡ Ok ys → flat_map hits_of (filter has_name ys) ≡ flat_map (hits_at t) (filter named ks)
    hits_by_number [] ys e = let same : [] ≡ ys = cc in rw (← same) refl
    hits_by_number (k ∷ ks) ys e =
        let a = bind_ok (name_at t (abbreviations_in t.abbreviations) strings base k) (λ y. names_by (abbreviations_in t.abbreviations) ks >>= λ others. Ok (y ∷ others)) ys e in
        let b = bind_ok (names_by (abbreviations_in t.abbreviations) ks) (λ others. Ok (a.0 ∷ others)) ys a.2 in
        let same : a.0 ∷ b.0 ≡ ys = cc in
        let p = parts t (abbreviations_in t.abbreviations) strings base k a.0 a.1 in
        let text : named k ≡ has_name a.0 = ap (λ (r : Result (List ℕ) Fault). bytes_eq (unwrap_or (value_of r) []) name) p.text in
        let hits : hits_at t k ≡ a.0.hits = ap list_in p.entries in
        rw (← same) (first (has_name a.0) (named k) a.0 text hits (filter has_name b.0) (filter named ks) (hits_by_number ks b.0 b.1))
      where
        first : (b c : Bool) (y : Name) → c ≡ b → hits_at t k ≡ y.hits → (us : List Name) (vs : List ℕ) → flat_map hits_of us ≡ flat_map (hits_at t) vs → flat_map hits_of (cond b (y ∷ us) us) ≡ flat_map (hits_at t) (cond c (k ∷ vs) vs)
        first true c y is hits us vs more = rw (is, hits, more) refl
        first false c y is hits us vs more = rw (is, more) refl

  -- ---- the whole index

  abbrev whole : List Name → Result NameIndex Fault
  whole names = Ok (record { names = names })

  abbrev then_names : List Abbreviation → Result NameIndex Fault
  then_names abbrevs = names_by abbrevs (below t.counts.names) >>= whole

  abbrev buckets : Result (List (record {})) Fault
  buckets = each (is_bucket t) (enumerate_from 0 t.buckets.numbers)

  abbrev then_buckets : List Abbreviation → Result NameIndex Fault
  then_buckets abbrevs = buckets >>= λ _. then_names abbrevs

  index_steps : index_of t strings base ≡ (abbreviations t.abbreviations >>= then_buckets)
  unfolding index_of
  index_steps = by (abbreviations t.abbreviations)
    where
      by_buckets : (abbrevs : List Abbreviation) (r : Result (List (record {})) Fault) → (r >> then_names abbrevs) ≡ (r >>= λ _. then_names abbrevs)
      by_buckets abbrevs (Ok x) = refl
      by_buckets abbrevs (Err d) = refl

      by : (r : Result (List Abbreviation) Fault) → (r >>= λ abbrevs. buckets >> then_names abbrevs) ≡ (r >>= then_buckets)
      by (Ok abbrevs) = by_buckets abbrevs buckets
      by (Err d) = refl

  pub record AllRight : Type 0 where
    pub abbreviations_ok : IsOk (abbreviations t.abbreviations)
    pub buckets_ok : IsOk buckets
    pub names : List Name
    pub names_are : names_by (abbreviations_in t.abbreviations) (below t.counts.names) ≡ Ok names
    pub index_is : index_of t strings base ≡ whole names

  pub all_right : IsOk (index_of t strings base) → AllRight
  all_right e =
      let x = ok_is (index_of t strings base) e in
      let a = bind_ok (abbreviations t.abbreviations) then_buckets x.0 (sym index_steps ∙ x.1) in
      let b = bind_ok buckets (λ _. then_names a.0) x.0 a.2 in
      let c = bind_ok (names_by a.0 (below t.counts.names)) whole x.0 b.2 in
      let in_list : abbreviations_in t.abbreviations ≡ a.0 = ap list_in a.1 in
      record {
        abbreviations_ok = is_ok_by (abbreviations t.abbreviations) a.0 a.1;
        buckets_ok = is_ok_by buckets b.0 b.1;
        names = c.0;
        names_are = ap (λ (abbrevs : List Abbreviation). names_by abbrevs (below t.counts.names)) in_list ∙ c.1;
        index_is = x.1 ∙ sym c.2;
      }

  pub name_right : IsOk (index_of t strings base) → (k : ℕ) → k < t.counts.names → IsOk (name_at t (abbreviations_in t.abbreviations) strings base k)
  name_right e k lt =
      let a = all_right e in
      each_right (name_at t (abbreviations_in t.abbreviations) strings base) 0 t.counts.names k (is_ok_by (names_by (abbreviations_in t.abbreviations) (below t.counts.names)) a.names a.names_are) (omega arith) (omega (arith, lt))

  pub bucket_right : IsOk (index_of t strings base) → IsOk buckets
  bucket_right e = (all_right e).buckets_ok

  pub hits_are : IsOk (index_of t strings base) → (name : List ℕ) → name_index_hits (index_in (index_of t strings base)) name ≡ flat_map (hits_at t) (filter (named name) (below t.counts.names))
  hits_are e name =
      let a = all_right e in
      ap (λ (r : Result NameIndex Fault). name_index_hits (index_in r) name) a.index_is ∙ hits_by_number name (below t.counts.names) a.names a.names_are

  -- ---- the first fault of the index

  pub at_abbreviations : (d : Fault) → wrong_in (abbreviations t.abbreviations) ≡ Some d → index_of t strings base ≡ Err d
  at_abbreviations d e = index_steps ∙ by (abbreviations t.abbreviations) e
    where
      by : (r : Result (List Abbreviation) Fault) → wrong_in r ≡ Some d → (r >>= then_buckets) ≡ Err d
      by (Ok x) e = absurd cc
      by (Err x) e = let same : x ≡ d = cc in ap (λ (y : Fault). let r : Result NameIndex Fault = Err y in r) same

  module _ (abbrevs_ok : wrong_in (abbreviations t.abbreviations) ≡ None) where
    behind_abbreviations : index_of t strings base ≡ then_buckets (abbreviations_in t.abbreviations)
    behind_abbreviations = index_steps ∙ by (abbreviations t.abbreviations) abbrevs_ok
      where
        by : (r : Result (List Abbreviation) Fault) → wrong_in r ≡ None → (r >>= then_buckets) ≡ then_buckets (list_in r)
        by (Ok x) e = refl
        by (Err x) e = absurd cc

    pub at_buckets : (d : Fault) → wrong_in buckets ≡ Some d → index_of t strings base ≡ Err d
    at_buckets d e = behind_abbreviations ∙ by buckets e
      where
        by : (r : Result (List (record {})) Fault) → wrong_in r ≡ Some d → (r >>= λ _. then_names (abbreviations_in t.abbreviations)) ≡ Err d
        by (Ok x) e = absurd cc
        by (Err x) e = let same : x ≡ d = cc in ap (λ (y : Fault). let r : Result NameIndex Fault = Err y in r) same

    module _ (buckets_ok : wrong_in buckets ≡ None) where
      behind_buckets : index_of t strings base ≡ then_names (abbreviations_in t.abbreviations)
      behind_buckets = behind_abbreviations ∙ by buckets buckets_ok
        where
          by : (r : Result (List (record {})) Fault) → wrong_in r ≡ None → (r >>= λ _. then_names (abbreviations_in t.abbreviations)) ≡ then_names (abbreviations_in t.abbreviations)
          by (Ok x) e = refl
          by (Err x) e = absurd cc

      abbrev all_names : Result (List Name) Fault
      all_names = names_by (abbreviations_in t.abbreviations) (below t.counts.names)

      pub at_names : (d : Fault) → wrong_in all_names ≡ Some d → index_of t strings base ≡ Err d
      at_names d e = behind_buckets ∙ by all_names e
        where
          by : (r : Result (List Name) Fault) → wrong_in r ≡ Some d → (r >>= whole) ≡ Err d
          by (Ok x) e = absurd cc
          by (Err x) e = let same : x ≡ d = cc in ap (λ (y : Fault). let r : Result NameIndex Fault = Err y in r) same

      pub index_found : wrong_in all_names ≡ None → IsOk (index_of t strings base)
      index_found e = ap is_ok behind_buckets ∙ by all_names e
        where
          by : (r : Result (List Name) Fault) → wrong_in r ≡ None → is_ok (r >>= whole) ≡ true
          by (Ok x) e = refl
          by (Err x) e = absurd cc

-- ---- the bytes

module _ (bytes strings : List ℕ) (base : ℕ) where
  by_tables : name_index bytes strings base ≡ (tables bytes >>= λ t. index_of t strings base)
  unfolding name_index index_of
  by_tables = refl

  pub no_tables : (d : Fault) → tables bytes ≡ Err d → name_index bytes strings base ≡ Err d
  no_tables d e = by_tables ∙ rw e refl

  module _ (t : Tables) (found : tables bytes ≡ Ok t) where
    pub as_index : name_index bytes strings base ≡ index_of t strings base
    as_index = by_tables ∙ rw found refl

    pub as_index_in : IsOk (index_of t strings base) → name_index bytes strings base ≡ Ok (index_in (index_of t strings base))
    as_index_in e = as_index ∙ by (index_of t strings base) e
      where
        by : (r : Result NameIndex Fault) → IsOk r → r ≡ Ok (index_in r)
        by (Ok x) e = refl
        by (Err d) e = absurd cc

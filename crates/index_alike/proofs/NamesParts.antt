-- The parts of which an index is written, and that their numbers fit.
use Rattle.std.proofs.Common.{◌≡◌, ℕ, ◌+◌, ◌*◌, ◌<◌, ◌≤◌, true, false, List, [], ◌∷◌, ◌++◌, length, get_or, map, refl, sym, ap, ◌∙◌, subst, arith, length-append}
use Rattle.std.specs.Prelude.{All, flat_map, Contains, bytes_eq}
use Rattle.std.specs.List.{enumerate_from}
use Rattle.std.proofs.lemmas.List.{length-map, get_or-map}
use Rattle.std.proofs.lemmas.List.Elements.{All-map, Contains-get_or}
use Rattle.std.proofs.lemmas.List.Folds.{flat_map-map}
use Rattle.std.proofs.lemmas.List.FromFn.{length-map-range_with_len, length-range_with_len, get_or-range_with_len}
use Rattle.std.proofs.lemmas.Slice.Eq.{bytes_eq-Decides}
use Rattle.common_laws.proofs.Members.{of_map, to_map}
use Rattle.common_laws.proofs.Lists.{length_of_fours}
use Rattle.index_model.specs.declared.entry.Entry.{Entry}
use Rattle.index_model.specs.declared.unit.Unit.{Unit as UnitHeader}
use Rattle.index_model.specs.Hashes.{name_hash}
use Rattle.index_model.specs.Layout.{below, u16_bytes, u32_bytes, ended, start_of}
use Rattle.index_model.specs.Ordered.{bytes_lt, place_of}
use Rattle.index_model.specs.NameIndex.{Indexed, Row, units_of_sort, unit_offsets, all_indexed, names_in, name_index_strings, name_index_bytes, in_index_order, name_lt, bucket, rows_of, group, abbreviation_bytes, abbreviation_table, string_offset}
use Rattle.index_model.proofs.IndexOrders.{name_order}
use Rattle.index_alike.proofs.NamesHeader.{Parts, counts_in, body_of, AreParts}
use Rattle.index_alike.proofs.NamesAbbreviations.{rows_short}
use Rattle.index_model.proofs.Orders.{bytes_order, ascending_has, ascending_only}
use Rattle.index_alike.proofs.NamesOrder.{place_stands}
use Rattle.index_alike.proofs.NamesEntries.{begins_at}
use Rattle.index_alike.proofs.NamesBuckets.{bucket_low, hash_fits}

-- ---- sizes

pub all_below : (n : ℕ) (f : ℕ → ℕ) (P : ℕ → Type 0) → ((k : ℕ) → k < n → P (f k)) → All P (map f (below n))
all_below n f P each k d lt =
    let size : length (map f (below n)) ≡ n = length-map-range_with_len f 0 n in
    let places : length (below n) ≡ n = length-range_with_len 0 n in
    let within : k < n = omega (arith, size) in
    let at : get_or (map f (below n)) k d ≡ f (get_or (below n) k 0) = get_or-map f (below n) k 0 d (omega (arith, places)) in
    let place : get_or (below n) k 0 ≡ k = get_or-range_with_len 0 n k 0 within ∙ (let e : 0 + k ≡ k = omega arith in e) in
    subst P (sym (at ∙ ap f place)) (each k within)

module _ (units : List UnitHeader) (old : ℕ) (entries : List Entry) where
  -- what the index has, the rows of its abbreviations, its names in byte order and in its own
  abbrev pub es : List Indexed
  es = all_indexed units entries

  abbrev pub rows : List Row
  rows = rows_of es

  abbrev pub strings : List (List ℕ)
  strings = names_in es

  abbrev pub names : List (List ℕ)
  names = in_index_order strings

  abbrev pub groups : List (List ℕ)
  groups = map (group rows es) names

  abbrev n : ℕ
  n = length names

  -- the parts of the index
  abbrev pub parts : Parts
  parts = record {
    cus = length (units_of_sort false units);
    local = length (units_of_sort true units);
    names = n;
    lists = unit_offsets false units ++ unit_offsets true units;
    buckets = map (bucket names) (below n);
    hashes = map name_hash names;
    strings = map (string_offset old strings) names;
    entries = map (start_of groups) (below n);
    table = abbreviation_table rows;
    pool = flat_map (λ g. g) groups;
  }

  -- ---- its bytes

  abbrev framed : List ℕ → List ℕ → List ℕ → List ℕ → List ℕ
  framed b h s t =
      let body = u16_bytes 5 ++ u16_bytes 0 ++ flat_map u32_bytes (counts_in parts) ++ (unit_offsets false units ++ unit_offsets true units) ++ (b ++ h ++ s ++ t) ++ abbreviation_table rows ++ flat_map (λ g. g) groups in
      u32_bytes (length body) ++ body

  pub bytes_are : name_index_bytes units old entries ≡ u32_bytes (length (body_of parts)) ++ body_of parts
  unfolding name_index_bytes
  bytes_are = λ i. framed (sym (flat_map-map u32_bytes (bucket names) (below n)) i) (sym (flat_map-map u32_bytes name_hash names) i)
      (sym (flat_map-map u32_bytes (string_offset old strings) names) i) (sym (flat_map-map u32_bytes (start_of groups) (below n)) i)

  ten : (a b c d e f g j k l : List ℕ) → length ((((((a ++ b) ++ c) ++ d) ++ (((e ++ f) ++ g) ++ j)) ++ k) ++ l) ≡ length a + length b + length c + length d + (length e + length f + length g + length j) + length k + length l
  ten a b c d e f g j k l = simp length-append

  pub body_size : length (body_of parts) ≡ 32 + (length (units_of_sort false units) + length (units_of_sort true units)) * 4 + n * 16 + length (abbreviation_table rows) + length (flat_map (λ g. g) groups)
  body_size =
      let p : Parts = parts in
      let whole = ten (u16_bytes 5) (u16_bytes 0) (flat_map u32_bytes (counts_in p)) p.lists (flat_map u32_bytes p.buckets) (flat_map u32_bytes p.hashes) (flat_map u32_bytes p.strings) (flat_map u32_bytes p.entries) p.table p.pool in
      let lists = length-append (unit_offsets false units) (unit_offsets true units) in
      let cus = length_of_fours (λ (u : ℕ × UnitHeader). u32_bytes u.1.start) (units_of_sort false units) (λ u. refl) in
      let local = length_of_fours (λ (u : ℕ × UnitHeader). u32_bytes u.1.start) (units_of_sort true units) (λ u. refl) in
      let buckets = length_of_fours u32_bytes p.buckets (λ x. refl) in
      let hashes = length_of_fours u32_bytes p.hashes (λ x. refl) in
      let texts = length_of_fours u32_bytes p.strings (λ x. refl) in
      let places = length_of_fours u32_bytes p.entries (λ x. refl) in
      let b : length p.buckets ≡ n = length-map-range_with_len (bucket names) 0 n in
      let h : length p.hashes ≡ n = length-map names name_hash in
      let s : length p.strings ≡ n = length-map names (string_offset old strings) in
      let t : length p.entries ≡ n = length-map-range_with_len (start_of groups) 0 n in
      omega (arith, whole, lists, cus, local, buckets, hashes, texts, places, b, h, s, t)

  -- ---- names

  -- a name of the index is one of its strings, and the name of an entry
  pub name_string : (name : List ℕ) → Contains names name → Contains strings name
  name_string name c = ascending_only (name_lt (length strings)) (name_order (length strings)) strings name c

  pub string_entry : (name : List ℕ) → Contains strings name → (e : Indexed) × Contains es e × (e.name ≡ name)
  string_entry name c = of_map (λ (e : Indexed). e.name) es name (ascending_only bytes_lt bytes_order (map (λ (e : Indexed). e.name) es) name c)

  -- the name of each entry is a name of the index
  pub entry_name : (e : Indexed) → Contains es e → Contains names e.name
  entry_name e c = ascending_has (name_lt (length strings)) (name_order (length strings)) strings e.name (ascending_has bytes_lt bytes_order (map (λ (e : Indexed). e.name) es) e.name (to_map (λ (e : Indexed). e.name) es e c))

  string_low : (name : List ℕ) → Contains names name → string_offset old strings name ≤ old + length (flat_map ended strings)
  string_low name c =
      let s = place_stands bytes_eq (λ x y e. (bytes_eq-Decides x y).0 e) (λ x. (bytes_eq-Decides x x).1 refl) name strings (name_string name c) in
      let long = length-map strings ended in
      let b = begins_at (map ended strings) (place_of bytes_eq name strings) [] (omega (arith, s.within, long)) in
      let flat : length (flat_map (λ (g : List ℕ). g) (map ended strings)) ≡ length (flat_map ended strings) = ap (λ (w : List ℕ). length w) (flat_map-map (λ (g : List ℕ). g) ended strings) in
      omega (arith, b.place, flat)

  -- ---- numbers

  module _ (short : length (name_index_bytes units old entries) ≤ 4294967283) (texts : old + length (name_index_strings units entries) ≤ 4294967295) where
    pub body_short : length (body_of parts) < 4294967280
    body_short =
        let same : length (name_index_bytes units old entries) ≡ length (u32_bytes (length (body_of parts)) ++ body_of parts) = ap (λ (w : List ℕ). length w) bytes_are in
        let four = length-append (u32_bytes (length (body_of parts))) (body_of parts) in
        omega (arith, short, same, four)

    pub few_rows : length rows < 4294967296
    few_rows =
        let size = length-append (flat_map (λ r. abbreviation_bytes (r.0 + 1) r.1) (enumerate_from 0 rows)) (0 ∷ []) in
        omega (arith, body_short, body_size, size, rows_short 0 rows)

    fit : ℕ → Type 0
    fit k = k < 4294967296

    pub strings_are : name_index_strings units entries ≡ flat_map ended strings
    unfolding name_index_strings
    strings_are = refl

    string_fits : (name : List ℕ) → Contains names name → string_offset old strings name < 4294967296
    string_fits name c =
        let low : string_offset old strings name ≤ old + length (flat_map ended strings) = string_low name c in
        let text : length (name_index_strings units entries) ≡ length (flat_map ended strings) = ap (λ (w : List ℕ). length w) strings_are in
        let sum : old + length (flat_map ended strings) ≤ 4294967295 = subst (λ (k : ℕ). old + k ≤ 4294967295) text texts in
        omega (arith, low, sum)

    pub are_parts : AreParts parts
    unfolding fit
    are_parts =
        let p : Parts = parts in
        let size = body_size in
        let low = body_short in
        let lists = length-append (unit_offsets false units) (unit_offsets true units) in
        let cus = length_of_fours (λ (u : ℕ × UnitHeader). u32_bytes u.1.start) (units_of_sort false units) (λ u. refl) in
        let local = length_of_fours (λ (u : ℕ × UnitHeader). u32_bytes u.1.start) (units_of_sort true units) (λ u. refl) in
        record {
          lists = omega (arith, lists, cus, local);
          buckets = length-map-range_with_len (bucket names) 0 n;
          hashes = length-map names name_hash;
          strings = length-map names (string_offset old strings);
          entries = length-map-range_with_len (start_of groups) 0 n;
          cus_fit = omega (arith, size, low);
          local_fit = omega (arith, size, low);
          names_fit = omega (arith, size, low);
          table_fits = omega (arith, size, low);
          buckets_fit = all_below n (bucket names) fit (λ k lt. omega (arith, bucket_low names k, size, low));
          hashes_fit = All-map fit name_hash names (λ k d lt. hash_fits (get_or names k d));
          strings_fit = All-map fit (string_offset old strings) names (λ k d lt. string_fits (get_or names k d) (Contains-get_or names k d lt));
          entries_fit = all_below n (start_of groups) fit (λ k lt.
              let long = length-map names (group rows es) in
              let b = begins_at groups k [] (omega (arith, long)) in
              omega (arith, b.place, size, low));
          short = low;
        }

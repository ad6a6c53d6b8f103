-- The whole index that was written reads back.
use Rattle.std.proofs.Common.{◌≡◌, ℕ, zero, suc, ◌+◌, ◌<◌, ◌≤◌, Bool, true, false, List, [], ◌∷◌, ◌++◌, length, get_or, drop, map, filter, Ok, Result, refl, sym, ap, ◌∙◌, subst, arith, length-append, append_assoc}
use Rattle.std.specs.Prelude.{All, flat_map, Contains, bytes_eq}
use Rattle.std.specs.List.{enumerate_from, range_with_len}
use Rattle.std.proofs.lemmas.Bool.{le-leb}
use Rattle.std.proofs.lemmas.List.{length-map, get_or-map, get_or_default}
use Rattle.std.proofs.lemmas.List.Elements.{Contains-get_or, All-tail}
use Rattle.std.proofs.lemmas.List.FromFn.{get_or-map-range_with_len, length-range_with_len, get_or-range_with_len}
use Rattle.std.proofs.lemmas.Option.{unwrap_or-slice_get}
use Rattle.common_laws.proofs.Members.{of_filter}
use Rattle.ix_base.specs.declared.fault.Fault.{Fault}
use Rattle.index_model.specs.declared.entry.Entry.{Entry}
use Rattle.index_model.specs.declared.unit.Unit.{Unit as UnitHeader}
use Rattle.index_model.specs.Layout.{below, ended, start_of, nth}
use Rattle.index_model.specs.Meaning.{each}
use Rattle.index_model.specs.NameIndex.{Indexed, units_of_sort, name_index_bytes, name_index_strings, name_lt, entry_bytes, group, bucket, string_offset}
use Rattle.index_model.specs.NameAbbreviations.{Abbreviation, abbreviations}
use Rattle.index_model.specs.NameTables.{Tables}
use Rattle.index_model.specs.NameHeader.{tables}
use Rattle.index_model.specs.NameIndexRead.{NameHit, Name, string_of, is_hashed, entries_at, entries_of_name, name_at, is_bucket, name_index}
use Rattle.index_model.specs.Ordered.{bytes_lt}
use Rattle.index_model.proofs.Pairs.{Pairs, pairs_weaker}
use Rattle.index_model.proofs.IndexOrders.{name_order}
use Rattle.index_alike.specs.NamesAlike.{hit_of}
use Rattle.index_alike.proofs.NamesNumbers.{from}
use Rattle.index_alike.proofs.NamesHeader.{tables_in, tables_are}
use Rattle.index_alike.proofs.NamesAbbreviations.{table_is}
use Rattle.index_model.proofs.Orders.{bytes_order}
use Rattle.index_alike.proofs.NamesOrder.{Below, ascending_pairs, ascending_size}
use Rattle.index_alike.proofs.NamesRows.{row_stands, rows_fit}
use Rattle.index_alike.proofs.NamesEntries.{unit_count, Fits, abbrevs, entries_are, entries_short, BeginsAt, begins_at}
use Rattle.index_alike.proofs.NamesBuckets.{bucket_low, hashed_is}
use Rattle.index_alike.proofs.NamesTexts.{HasNoZero, string_is}
use Rattle.index_alike.proofs.NamesParts.{es, rows, strings, names, groups, parts, bytes_are, name_string, string_entry, few_rows, are_parts, strings_are, all_below}

-- ---- one step after the other

entries_steps : (t : Tables) (kinds : List Abbreviation) (k offset : ℕ) (hits : List NameHit) → nth t.entries.numbers k ≡ offset → offset ≤ length t.pool.rest
    → entries_at t kinds (length t.pool.rest + 1) (from (t.pool.at + offset) (drop offset t.pool.rest)) ≡ Ok hits → entries_of_name t kinds k ≡ Ok hits
unfolding entries_of_name
entries_steps t kinds k offset hits is within read = rw (is, le-leb offset (length t.pool.rest) within, read) refl

name_steps : (t : Tables) (kinds : List Abbreviation) (strings : List ℕ) (base k : ℕ) (name : List ℕ) (hits : List NameHit) → string_of t strings base k ≡ Ok name → is_hashed t k name ≡ Ok (record {}) → entries_of_name t kinds k ≡ Ok hits
    → name_at t kinds strings base k ≡ Ok (record { name = name; hits = hits })
unfolding name_at
name_steps t kinds strings base k name hits text hashed read = rw (text, hashed, read) refl

index_steps : (bytes strings : List ℕ) (base : ℕ) (t : Tables) (kinds : List Abbreviation) (oks : List (record {})) (ns : List Name) → tables bytes ≡ Ok t → abbreviations t.abbreviations ≡ Ok kinds → each (is_bucket t) (enumerate_from 0 t.buckets.numbers) ≡ Ok oks
    → each (name_at t kinds strings base) (below t.counts.names) ≡ Ok ns → name_index bytes strings base ≡ Ok (record { names = ns })
unfolding name_index
index_steps bytes strings base t kinds oks ns head codes buckets read = rw (head, codes, buckets, read) refl

bucket_steps : (t : Tables) (b : ℕ × ℕ) → b.1 ≤ t.counts.names → is_bucket t b ≡ Ok (record {})
bucket_steps t b low = rw (le-leb b.1 t.counts.names low) refl

-- each item gives its own result
each_is : {A B : Type 0} (g : A → Result B Fault) (f : A → B) (xs : List A) → All (λ x. g x ≡ Ok (f x)) xs → each g xs ≡ Ok (map f xs)
each_is g f [] all = refl
each_is g f (x ∷ xs) all =
    let here : g x ≡ Ok (f x) = all 0 x (omega arith) in
    let more = each_is g f xs (All-tail (λ x. g x ≡ Ok (f x)) x xs all) in
    rw (here, more) refl

-- what holds of each number of a list, holds of each with its place
with_places : (P : ℕ → Type 0) (k : ℕ) (xs : List ℕ) → All P xs → All (λ (x : ℕ × ℕ). P x.1) (enumerate_from k xs)
with_places P k [] all i d lt = absurd (omega arith)
with_places P k (x ∷ xs) all zero d lt = all 0 x (omega arith)
with_places P k (x ∷ xs) all (suc i) d lt = with_places P (k + 1) xs (All-tail P x xs all) i d (omega arith)

-- what is made of the places is what is made of the items
by_places : {A B : Type 0} (f : A → B) (g : ℕ → B) (a : ℕ) (xs : List A) → ((j : ℕ) (d : A) → j < length xs → g (a + j) ≡ f (get_or xs j d)) → map g (range_with_len a (length xs)) ≡ map f xs
by_places f g a [] same = refl
by_places {B = B} f g a (x ∷ xs) same =
    let none : a ≡ a + 0 = omega arith in
    let first : g a ≡ f x = ap g none ∙ same 0 x (omega arith) in
    let rest = by_places f g (a + 1) xs (λ j d lt. let at : a + 1 + j ≡ a + suc j = omega arith in ap g at ∙ same (suc j) d (omega arith)) in
    λ i. first i ∷ rest i

-- ---- the index of units and entries

-- the name has no zero, the unit is one of its sort, and tag and offset fit
pub record IsSound (units : List UnitHeader) (e : Indexed) : Type 0 where
  pub name : HasNoZero e.name
  pub tag : e.tag < 18446744073709551616
  pub unit : e.unit < length (units_of_sort e.types units)
  pub offset : e.offset < 4294967296

module _ (units : List UnitHeader) (old : ℕ) (entries : List Entry) where
  -- the entries of a name
  abbrev pub own : List ℕ → List Indexed
  own name = filter (λ e. bytes_eq e.name name) (es units old entries)

  -- a name and its entries, kinds they are read
  abbrev pub named : List ℕ → Name
  named name = record { name = name; hits = map hit_of (own name) }

  abbrev t : Tables
  t = tables_in (parts units old entries)

  abbrev ns : List (List ℕ)
  ns = names units old entries

  module _ (short : length (name_index_bytes units old entries) ≤ 4294967283) (texts : old + length (name_index_strings units entries) ≤ 4294967295) (sound : (e : Indexed) → Contains (es units old entries) e → IsSound units e) where
    units_fit : (types : Bool) → unit_count t types < 4294967296
    units_fit true = (are_parts units old entries short texts).local_fit
    units_fit false = (are_parts units old entries short texts).cus_fit

    abbrev EntryFits : Indexed → Type 0
    EntryFits = Fits t (rows units old entries) refl (few_rows units old entries short texts) units_fit

    abbrev kinds : List Abbreviation
    kinds = abbrevs t (rows units old entries) refl (few_rows units old entries short texts) units_fit

    unit_fits : (types : Bool) (unit : ℕ) → unit < length (units_of_sort types units) → unit < unit_count t types
    unit_fits true unit lt = lt
    unit_fits false unit lt = lt

    fits : (e : Indexed) → Contains (es units old entries) e → EntryFits e
    fits e c =
        let s = sound e c in
        record { row = row_stands (es units old entries) e c; unit = unit_fits e.types e.unit s.unit; offset = s.offset }

    own_fit : (name : List ℕ) → All EntryFits (own name)
    own_fit name k d lt = let e = get_or (own name) k d in fits e (of_filter (λ (e : Indexed). bytes_eq e.name name) (es units old entries) e (Contains-get_or (own name) k d lt)).0

    -- the entries at a place
    entries_are_own : (k : ℕ) → k < length ns → entries_of_name t kinds k ≡ Ok (map hit_of (own (get_or ns k [])))
    entries_are_own k lt =
        let name = get_or ns k [] in
        let gs = groups units old entries in
        let pool : List ℕ = flat_map (λ g. g) gs in
        let g : List ℕ = group (rows units old entries) (es units old entries) name in
        let flat : List ℕ = flat_map (entry_bytes (rows units old entries)) (own name) in
        let long : length gs ≡ length ns = length-map ns (group (rows units old entries) (es units old entries)) in
        let item : get_or gs k g ≡ g = get_or-map (group (rows units old entries) (es units old entries)) ns k [] g lt in
        let b : BeginsAt gs k g = subst (BeginsAt gs k) item (begins_at gs k g (omega (arith, long))) in
        let start : ℕ = start_of gs k in
        let read : drop start pool ≡ flat ++ 0 ∷ b.rest = b.is ∙ append_assoc flat (0 ∷ []) b.rest in
        let offset : nth t.entries.numbers k ≡ start = unwrap_or-slice_get t.entries.numbers k 0 ∙ get_or-map-range_with_len (start_of gs) 0 (length ns) k k 0 lt (omega arith) in
        let size : length g ≡ length flat + 1 = length-append flat (0 ∷ []) in
        let many : length (own name) < length pool + 1 = omega (arith, b.place, size, entries_short (rows units old entries) (own name)) in
        entries_steps t kinds k start (map hit_of (own name)) offset (omega (arith, b.place))
        (ap (λ (w : List ℕ). entries_at t kinds (length pool + 1) (from (t.pool.at + start) w)) read ∙ entries_are t (rows units old entries) refl (few_rows units old entries short texts) units_fit (own name) (length pool + 1) (t.pool.at + start) b.rest many (own_fit name))

    no_zero : (name : List ℕ) → Contains ns name → HasNoZero name
    no_zero name c = let e = string_entry units old entries name (name_string units old entries name c) in subst HasNoZero e.2 (sound e.0 e.1).name

    -- the index has as many names as strings
    names_rise : Pairs (Below (name_lt (length ns)) (name_order (length ns))) ns
    names_rise =
        let ss = strings units old entries in
        let apart = pairs_weaker (Below bytes_lt bytes_order) (λ x y. x ≡ y → ⊥) (λ x y less same. bytes_order.itself y (subst (λ (w : List ℕ). bytes_lt w y ≡ true) same less)) ss (ascending_pairs bytes_lt bytes_order (map (λ (e : Indexed). e.name) (es units old entries))) in
        let size : length ns ≡ length ss = ascending_size (name_lt (length ss)) (name_order (length ss)) ss apart in
        subst (λ (k : ℕ). Pairs (Below (name_lt k) (name_order k)) ns) (sym size) (ascending_pairs (name_lt (length ss)) (name_order (length ss)) ss)

    -- the name at a place
    name_is : (k : ℕ) → k < length ns → name_at t kinds (name_index_strings units entries) old k ≡ Ok (named (get_or ns k []))
    name_is k lt =
        let name = get_or ns k [] in
        let c : Contains ns name = Contains-get_or ns k [] lt in
        let offset : nth t.strings.numbers k ≡ string_offset old (strings units old entries) name = unwrap_or-slice_get t.strings.numbers k 0 ∙ get_or-map (string_offset old (strings units old entries)) ns k [] 0 lt in
        let text = string_is t (strings units old entries) old k name offset (name_string units old entries name c) (no_zero name c) in
        let same : string_of t (name_index_strings units entries) old k ≡ string_of t (flat_map ended (strings units old entries)) old k = ap (λ (w : List ℕ). string_of t w old k) (strings_are units old entries short texts) in
        let rises : Pairs (Below (name_lt (length ns)) (name_order (length ns))) ns = names_rise in
        name_steps t kinds (name_index_strings units entries) old k name (map hit_of (own name)) (same ∙ text) (hashed_is ns rises t refl refl k lt) (entries_are_own k lt)

    buckets_are : each (is_bucket t) (enumerate_from 0 t.buckets.numbers) ≡ Ok (map (λ b. record {}) (enumerate_from 0 t.buckets.numbers))
    buckets_are =
        let low : All (λ b. b ≤ length ns) t.buckets.numbers = all_below (length ns) (bucket ns) (λ b. b ≤ length ns) (λ k lt. bucket_low ns k) in
        each_is (is_bucket t) (λ b. record {}) (enumerate_from 0 t.buckets.numbers) (λ k d lt. bucket_steps t (get_or (enumerate_from 0 t.buckets.numbers) k d) (with_places (λ b. b ≤ length ns) 0 t.buckets.numbers low k d lt))

    -- the whole index
    pub index_is : name_index (name_index_bytes units old entries) (name_index_strings units entries) old ≡ Ok (record { names = map named ns })
    index_is =
        let p = parts units old entries in
        let head : tables (name_index_bytes units old entries) ≡ Ok t = ap tables (bytes_are units old entries) ∙ tables_are p (are_parts units old entries short texts) in
        let few = few_rows units old entries short texts in
        let codes = table_is (rows units old entries) t.abbreviations.at (omega (arith, few)) (rows_fit (es units old entries) (λ e c. (sound e c).tag)) in
        let g : ℕ → Name = λ k. named (get_or ns k []) in
        let all : All (λ k. name_at t kinds (name_index_strings units entries) old k ≡ Ok (g k)) (below (length ns)) = λ k d lt.
        let many : length (below (length ns)) ≡ length ns = length-range_with_len 0 (length ns) in
        let within : k < length ns = omega (arith, lt, many) in
        let at : get_or (below (length ns)) k d ≡ k = get_or-range_with_len 0 (length ns) k d within ∙ (let e : 0 + k ≡ k = omega arith in e) in
        subst (λ (j : ℕ). name_at t kinds (name_index_strings units entries) old j ≡ Ok (g j)) (sym at) (name_is k within) in
        let whole : map g (below (length ns)) ≡ map named ns = by_places named g 0 ns (λ j d lt.
        let none : 0 + j ≡ j = omega arith in
        ap g none ∙ ap named (get_or_default ns j [] d lt)) in
        index_steps (name_index_bytes units old entries) (name_index_strings units entries) old t kinds (map (λ b. record {}) (enumerate_from 0 t.buckets.numbers)) (map named ns) head codes buckets_are
        (each_is (name_at t kinds (name_index_strings units entries) old) g (below (length ns)) all ∙ ap (λ (w : List Name). Ok w) whole)

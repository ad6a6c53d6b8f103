-- The bytes of a `.debug_names`, and the strings that it adds to `.debug_str` (DWARF 5, 6.1.1).
use Rattle.std.specs.Prelude.{ℕ, zero, suc, ◌+◌, ◌-◌, ◌/◌, ◌%◌, Bool, true, false, not, ◌&&◌, ◌||◌, nat_lt, ◌==◌, if◌then◌else◌, List, [], ◌∷◌, ◌++◌, length, map, filter, filter_map, position, flat_map, bytes_eq, slice_get, Option, Some, None, option_map, unwrap_or}
use Rattle.std.specs.List.{enumerate_from}
use Rattle.ix_base.specs.Reading.{◌>>=◌ as ◌>>=?◌}
use Rattle.index_model.specs.declared.entry.Entry.{Entry}
use Rattle.index_model.specs.declared.unit.Unit.{Unit as UnitHeader}
use Rattle.index_model.specs.Entries.{simple_of}
use Rattle.index_model.specs.Units.{is_types}
use Rattle.index_model.specs.Layout.{below, u16_bytes, u32_bytes, ended, start_of}
use Rattle.index_model.specs.Ordered.{ascending, bytes_lt, place_of}
use Rattle.index_model.specs.Hashes.{name_hash}
use Rattle.index_model.specs.GdbIndex.{is_type_unit}

-- ---- units

-- the units of `.debug_info` with their numbers: the type units, or all others
abbrev pub units_of_sort : Bool → List UnitHeader → List (ℕ × UnitHeader)
units_of_sort types units = filter (λ u. not (is_types u.1.part) && (if types then is_type_unit u.1 else not (is_type_unit u.1))) (enumerate_from 0 units)

-- where these units begin
abbrev pub unit_offsets : Bool → List UnitHeader → List ℕ
unit_offsets types units = flat_map (λ u. u32_bytes u.1.start) (units_of_sort types units)

-- ---- entries

-- an entry as the index has it: its name there, its tag, whether its unit is a type unit, the unit's place among those of its sort, and the entry's offset in the unit
pub record Indexed : Type 0 where
  pub name : List ℕ
  pub tag : ℕ
  pub types : Bool
  pub unit : ℕ
  pub offset : ℕ

-- linkage entries stand under their name, all others under their simple name
abbrev pub string_of_entry : Entry → List ℕ
string_of_entry e = if e.linkage then e.name else simple_of e

-- an entry of a unit of `.debug_info`; those of `.debug_types` don't stand in the index
unfoldable pub indexed_entry : List UnitHeader → Entry → Option Indexed
indexed_entry units e = slice_get units e.unit >>=? λ u.
    let unit = unwrap_or (position (λ v. v.0 == e.unit) (units_of_sort (is_type_unit u) units)) 0 in
    let indexed = Some (record { name = string_of_entry e; tag = e.tag; types = is_type_unit u; unit = unit; offset = e.offset - u.start }) in
    if is_types u.part then None else indexed

-- all that the index has, in section order
unfoldable pub all_indexed : List UnitHeader → List Entry → List Indexed
all_indexed units entries = filter_map (indexed_entry units) entries

-- ---- names

-- the distinct names, in byte order
abbrev pub names_in : List Indexed → List (List ℕ)
names_in es = ascending bytes_lt (map (λ e. e.name) es)

-- the strings of the names, each with a zero
unfoldable pub name_index_strings : List UnitHeader → List Entry → List ℕ
name_index_strings units entries = flat_map ended (names_in (all_indexed units entries))

-- by bucket, then by hash, then in byte order
abbrev pub name_lt : ℕ → List ℕ → List ℕ → Bool
name_lt buckets a b =
    let p = name_hash a in
    let q = name_hash b in
    nat_lt (p % buckets) (q % buckets) || (p % buckets == q % buckets && (nat_lt p q || (p == q && bytes_lt a b)))

-- the names in the order of the index, which has as many buckets
abbrev pub in_index_order : List (List ℕ) → List (List ℕ)
in_index_order names = ascending (name_lt (length names)) names

-- the place, counted from 1, of the first name of a bucket, or 0
abbrev pub bucket : List (List ℕ) → ℕ → ℕ
bucket names b = unwrap_or (option_map (λ k. k + 1) (position (λ n. name_hash n % length names == b) names)) 0

-- ---- abbreviations and the entry pool

-- a LEB number in as few bytes as it takes, at most so many
unfoldable pub uleb_in : ℕ → ℕ → List ℕ
uleb_in zero n = []
uleb_in (suc most) n = if nat_lt n 128 then n ∷ [] else ((n % 128 + 128) ∷ uleb_in most (n / 128))

-- a LEB number of at most 64 bits
abbrev pub uleb_bytes : ℕ → List ℕ
uleb_bytes n = uleb_in 10 n

-- a tag, and whether the unit is a type unit
abbrev pub Row : Type 0
Row = ℕ × Bool

-- the row of an entry
abbrev pub row_of : Indexed → Row
row_of e = (e.tag, e.types)

-- by tag, and of one tag the row of compile units before that of type units
abbrev pub row_lt : Row → Row → Bool
row_lt a b = nat_lt a.0 b.0 || (a.0 == b.0 && not a.1 && b.1)

-- neither comes before the other
abbrev pub row_eq : Row → Row → Bool
row_eq a b = not (row_lt a b) && not (row_lt b a)

-- the rows that occur; the code of each is its place, counted from 1
abbrev pub rows_of : List Indexed → List Row
rows_of es = ascending row_lt (map row_of es)

-- an abbreviation: code and tag, compile_unit or type_unit as udata, die_offset as ref4
abbrev pub abbreviation_bytes : ℕ → Row → List ℕ
abbreviation_bytes code row = uleb_bytes code ++ uleb_bytes row.0 ++ (if row.1 then 2 else 1) ∷ 0x0F ∷ 3 ∷ 0x13 ∷ 0 ∷ 0 ∷ []

-- the abbreviations, and a zero
abbrev pub abbreviation_table : List Row → List ℕ
abbreviation_table rows = ended (flat_map (λ r. abbreviation_bytes (r.0 + 1) r.1) (enumerate_from 0 rows))

-- an entry of the pool: code, unit and offset
abbrev pub entry_bytes : List Row → Indexed → List ℕ
entry_bytes rows e = uleb_bytes (place_of row_eq (row_of e) rows + 1) ++ uleb_bytes e.unit ++ u32_bytes e.offset

-- the entries of a name in section order, and a zero
abbrev pub group : List Row → List Indexed → List ℕ → List ℕ
group rows es name = ended (flat_map (entry_bytes rows) (filter (λ e. bytes_eq e.name name) es))

-- ---- the whole index

-- the counts: compile units, local and foreign type units, buckets, names, bytes of the abbreviations and of the augmentation
abbrev pub counts_of : List UnitHeader → ℕ → List ℕ → List ℕ
counts_of units names table = length (units_of_sort false units) ∷ length (units_of_sort true units) ∷ 0 ∷ names ∷ names ∷ length table ∷ 0 ∷ []

-- where the string of a name begins, if the strings begin at this place of their section
abbrev pub string_offset : ℕ → List (List ℕ) → List ℕ → ℕ
string_offset old_strings strings name = old_strings + start_of (map ended strings) (place_of bytes_eq name strings)

-- buckets, hashes, string offsets and entry offsets of the names
abbrev pub tables_of : ℕ → List (List ℕ) → List (List ℕ) → List (List ℕ) → List ℕ
tables_of old_strings strings names groups =
    flat_map (λ b. u32_bytes (bucket names b)) (below (length names)) ++ flat_map (λ n. u32_bytes (name_hash n)) names
    ++ flat_map (λ n. u32_bytes (string_offset old_strings strings n)) names ++ flat_map (λ k. u32_bytes (start_of groups k)) (below (length names))

-- the index of a file with these units and entries, whose `.debug_str` has old_strings bytes before it adds its own
unfoldable pub name_index_bytes : List UnitHeader → ℕ → List Entry → List ℕ
name_index_bytes units old_strings entries =
    let es = all_indexed units entries in
    let rows = rows_of es in
    let strings = names_in es in
    let names = in_index_order strings in
    let groups = map (group rows es) names in
    let table = abbreviation_table rows in
    let lists = unit_offsets false units ++ unit_offsets true units in
    let body = u16_bytes 5 ++ u16_bytes 0 ++ flat_map u32_bytes (counts_of units (length names) table) ++ lists ++ tables_of old_strings strings names groups ++ table ++ flat_map (λ g. g) groups in
    u32_bytes (length body) ++ body

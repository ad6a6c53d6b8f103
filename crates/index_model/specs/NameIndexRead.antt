-- What a `.debug_names` means, and its look-up (DWARF 5, 6.1.1).
use Rattle.std.specs.Prelude.{ℕ, zero, suc, ◌+◌, ◌*◌, ◌-◌, ◌%◌, Bool, ◌&&◌, ◌||◌, nat_lt, nat_le, ◌==◌, if◌then◌else◌, List, [], ◌∷◌, length, drop, filter, find, flat_map, bytes_eq, slice_range, Option, Some, None, Result, Ok, Err}
use Rattle.std.specs.List.{list_any, list_all, enumerate_from}
use Rattle.ix_base.specs.declared.fault.Fault.{Fault}
use Rattle.ix_base.specs.Reading.{Input, uleb, before_zero, ◌>>=◌ as ◌>>=?◌}
use Rattle.index_model.specs.declared.index_code.TheConstants.{NAMES_BUCKET, NAMES_HASH, NAMES_STRING_OFFSET, NAMES_ENTRY_POOL}
use Rattle.index_model.specs.Meaning.{◌>>=◌, ◌>>◌, fault, holds_or, some_or, each, wrong_in}
use Rattle.index_model.specs.Strings.{offset_size}
use Rattle.index_model.specs.Layout.{below, nth}
use Rattle.index_model.specs.Hashes.{name_hash}
use Rattle.index_model.specs.NameAbbreviations.{Abbreviation, Attribute, abbreviations, values, value_of}
use Rattle.index_model.specs.NameTables.{Tables, Table}
use Rattle.index_model.specs.NameHeader.{tables}

-- ---- names

-- the place of a number in a table of numbers of so many bytes
abbrev pub place_in : ℕ → Table → ℕ → ℕ
place_in size t k = t.at + size * k

-- the string at the offset of a name; of the string section the bytes from base on are known
unfoldable pub string_of : Tables → List ℕ → ℕ → ℕ → Result (List ℕ) Fault
string_of t strings base k = do
  let offset = nth t.strings.numbers k
  let wrong = fault NAMES_STRING_OFFSET (place_in (offset_size t.wide) t.strings k)
  holds_or (nat_le base offset && nat_le (offset - base) (length strings)) wrong
  some_or (before_zero (drop (offset - base) strings)) wrong

-- a name without bytes from 80 on must have its hash
abbrev pub has_hash : List ℕ → ℕ → Bool
has_hash name hash = list_any (λ c. nat_le 0x80 c) name || hash == name_hash name

-- the bucket of a name begins at one of its own names, and all names from there up to this one are its own
unfoldable pub is_in_bucket : Tables → ℕ → Bool
is_in_bucket t k =
    let count = length t.buckets.numbers in
    let own = nth t.hashes.numbers k % count in
    let begin = nth t.buckets.numbers own in
    nat_lt 0 begin && nat_le begin (k + 1) && list_all (λ h. h % count == own) (slice_range t.hashes.numbers (begin - 1) k)

-- where there are buckets, the hash of a name and then its bucket
unfoldable pub is_hashed : Tables → ℕ → List ℕ → Result (record {}) Fault
is_hashed t k name =
    let at = place_in 4 t.hashes k in
    let tested = holds_or (has_hash name (nth t.hashes.numbers k)) (fault NAMES_HASH at) >> holds_or (is_in_bucket t k) (fault NAMES_BUCKET at) in
    if length t.buckets.numbers == 0 then Ok (record {}) else tested

-- ---- entries

-- the list in which a unit stands
pub data Sort : Type 0 where
  Compile Local Foreign : Sort

-- an entry of the pool: its unit, by its place in the list of its sort, its tag, and its offset in the unit
pub record NameHit : Type 0 where
  pub sort : Sort
  pub unit : ℕ
  pub tag : ℕ
  pub offset : ℕ

-- an attribute that isn't there is no fault, and one that is there is a number
abbrev pub number_or_none : Option (Option ℕ) → Option (Option ℕ)
number_or_none None = Some None
number_or_none (Some None) = None
number_or_none (Some (Some n)) = Some (Some n)

-- a type unit by its number: local ones come first, then foreign ones
abbrev pub type_unit : Tables → ℕ → Option (Sort × ℕ)
type_unit t n =
    if nat_lt n t.counts.local then Some (Local, n) else
    if nat_lt n (t.counts.local + t.counts.foreign) then Some (Foreign, n - t.counts.local) else None

-- the unit by type_unit, else by compile_unit, else the only compile unit
abbrev pub unit_of : Tables → Option ℕ → Option ℕ → Option (Sort × ℕ)
unit_of t (Some n) compile = type_unit t n
unit_of t None (Some n) = if nat_lt n t.counts.cus then Some (Compile, n) else None
unit_of t None None = if t.counts.cus == 1 then Some (Compile, 0) else None

-- what the attributes of an entry say: compile_unit 1, type_unit 2 and die_offset 3
unfoldable pub hit : Tables → ℕ → List Attribute → Option NameHit
hit t tag vs =
    number_or_none (value_of 1 vs) >>=? λ compile. number_or_none (value_of 2 vs) >>=? λ types. number_or_none (value_of 3 vs) >>=? λ die_offset.
    die_offset >>=? λ offset. unit_of t types compile >>=? λ unit. Some (record { sort = unit.0; unit = unit.1; tag = tag; offset = offset })

-- the entry with a code, behind the code
unfoldable pub entry_with : Tables → List Abbreviation → ℕ → Input → Option (NameHit × Input)
entry_with t abbrevs code i =
    find (λ a. a.code == code) abbrevs >>=? λ a. values t.wide a.specs i >>=? λ vs. hit t a.tag vs.0 >>=? λ h. Some (h, vs.1)

-- the entries up to the code 0, at most so many
unfoldable pub entries_at : Tables → List Abbreviation → ℕ → Input → Result (List NameHit) Fault
entries_at t abbrevs zero i = Err (fault NAMES_ENTRY_POOL i.at)
entries_at t abbrevs (suc most) i = do
  code ← some_or (uleb i) (fault NAMES_ENTRY_POOL i.at)
  let more = some_or (entry_with t abbrevs code.0 code.1) (fault NAMES_ENTRY_POOL i.at) >>= λ first. entries_at t abbrevs most first.1 >>= λ others. Ok (first.0 ∷ others)
  if code.0 == 0 then Ok [] else more

-- the entries of a name; each takes a byte, and so does the code 0
unfoldable pub entries_of_name : Tables → List Abbreviation → ℕ → Result (List NameHit) Fault
entries_of_name t abbrevs k = do
  let offset = nth t.entries.numbers k
  holds_or (nat_le offset (length t.pool.rest)) (fault NAMES_ENTRY_POOL (place_in (offset_size t.wide) t.entries k))
  entries_at t abbrevs (length t.pool.rest + 1) (record { at = t.pool.at + offset; rest = drop offset t.pool.rest })

-- ---- the whole index

-- a name and its entries
pub record Name : Type 0 where
  pub name : List ℕ
  pub hits : List NameHit

-- the name with a number: its string, its hash and bucket, and its entries
unfoldable pub name_at : Tables → List Abbreviation → List ℕ → ℕ → ℕ → Result Name Fault
name_at t abbrevs strings base k = do
  name ← string_of t strings base k
  is_hashed t k name
  hits ← entries_of_name t abbrevs k
  Ok (record { name = name; hits = hits })

-- a bucket, with its number, holds the number of a name, or 0
abbrev pub is_bucket : Tables → ℕ × ℕ → Result (record {}) Fault
is_bucket t b = holds_or (nat_le b.1 t.counts.names) (fault NAMES_BUCKET (place_in 4 t.buckets b.0))

-- what look-ups need of an index
pub record NameIndex : Type 0 where
  pub names : List Name

-- what the bytes of an index mean, or the first fault
unfoldable pub name_index : List ℕ → List ℕ → ℕ → Result NameIndex Fault
name_index bytes strings base = do
  t ← tables bytes
  abbrevs ← abbreviations t.abbreviations
  each (is_bucket t) (enumerate_from 0 t.buckets.numbers)
  names ← each (name_at t abbrevs strings base) (below t.counts.names)
  Ok (record { names = names })

-- the first fault of an index, if it has one
abbrev pub name_index_fault : List ℕ → List ℕ → ℕ → Option Fault
name_index_fault bytes strings base = wrong_in (name_index bytes strings base)

-- the entries of all names whose string is the name, in the order of the table
abbrev pub name_index_hits : NameIndex → List ℕ → List NameHit
name_index_hits index name = flat_map (λ n. n.hits) (filter (λ n. bytes_eq n.name name) index.names)

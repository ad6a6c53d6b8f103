-- The bytes of an index over names in their order.
use Rattle.std.specs.Prelude.{ℕ, ◌+◌, ◌-◌, ◌*◌, ◌^◌, min, true, false, List, [], ◌∷◌, ◌++◌, length, map, flat_map}
use Rattle.index_model.specs.declared.unit.Unit.{Unit as UnitHeader}
use Rattle.index_model.specs.Layout.{below, u16_bytes, u32_bytes, ended, start_of}
use Rattle.index_model.specs.NameIndex.{Row as IndexRow, unit_offsets, bucket, abbreviation_table, entry_bytes, counts_of}
use Rattle.debugnames_write.specs.declared.item.IndexEntry.{IndexEntry}
use Rattle.debugnames_write.specs.declared.name.Name.{Name}
use Rattle.debugnames_write.specs.declared.units.UnitPlaces.{UnitPlaces}
use Rattle.debugnames_write.specs.Seen.{items_seen, texts}

-- the entries of a name, and a zero
abbrev pub entries_bytes : List IndexRow → List IndexEntry → List ℕ
entries_bytes rows items = ended (flat_map (entry_bytes rows) (items_seen items))

-- the entries of each name
abbrev pub groups_bytes : List IndexRow → List Name → List (List ℕ)
groups_bytes rows names = map (λ n. entries_bytes rows n.items.now) names

-- how many bytes they have, where 2 ^ 64 - 1 stands for all greater numbers
abbrev pub group_sizes : List IndexRow → List Name → List ℕ
group_sizes rows names = map (λ g. min (length g) (2 ^ 64 - 1)) (groups_bytes rows names)

-- all entries
abbrev pub pool_bytes : List IndexRow → List Name → List ℕ
pool_bytes rows names = flat_map (λ g. g) (groups_bytes rows names)

-- version, padding and counts
abbrev pub head_bytes : List UnitHeader → ℕ → List ℕ → List ℕ
head_bytes units names table = u16_bytes 5 ++ u16_bytes 0 ++ flat_map u32_bytes (counts_of units names table)

-- the same with these counts
abbrev pub head_with : UnitPlaces → ℕ → ℕ → List ℕ
head_with places names size = u16_bytes 5 ++ u16_bytes 0 ++ flat_map u32_bytes (places.compile_units ∷ places.type_units ∷ 0 ∷ names ∷ names ∷ size ∷ 0 ∷ [])

-- how many bytes stand in the index beside the abbreviations and the entries, with these counts
abbrev pub front_size : UnitPlaces → ℕ → ℕ
front_size places names = 36 + (places.compile_units + places.type_units) * 4 + names * 16

-- of each bucket the place of its first name
abbrev pub all_buckets : List Name → List ℕ
all_buckets names = map (bucket (texts names)) (below (length names))

-- the places of the first names of the buckets
abbrev pub bucket_bytes : List Name → List ℕ
bucket_bytes names = flat_map (λ b. u32_bytes (bucket (texts names) b)) (below (length names))

-- the hashes
abbrev pub hash_bytes : List Name → List ℕ
hash_bytes names = flat_map (λ n. u32_bytes n.hash) names

-- where the strings stand
abbrev pub string_bytes : List Name → List ℕ
string_bytes names = flat_map (λ n. u32_bytes n.string) names

-- where the entries of each name begin
abbrev pub start_bytes : List IndexRow → List Name → List ℕ
start_bytes rows names = flat_map (λ k. u32_bytes (start_of (groups_bytes rows names) k)) (below (length names))

-- all that stands behind the length
abbrev pub body_bytes : List UnitHeader → List IndexRow → List Name → List ℕ
body_bytes units rows names =
    head_bytes units (length names) (abbreviation_table rows) ++ (unit_offsets false units ++ unit_offsets true units)
    ++ (bucket_bytes names ++ hash_bytes names ++ string_bytes names ++ start_bytes rows names)
    ++ abbreviation_table rows ++ pool_bytes rows names

-- the index
unfoldable pub laid_out : List UnitHeader → List IndexRow → List Name → List ℕ
laid_out units rows names = u32_bytes (length (body_bytes units rows names)) ++ body_bytes units rows names

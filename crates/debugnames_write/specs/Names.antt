-- What is kept of each name.
use Rattle.std.specs.Prelude.{◌≡◌, ℕ, ◌+◌, ◌%◌, ◌<◌, ◌≤◌, List, [], ◌∷◌, length, map, take, drop, flat_map, All, Contains, IsPermutation, IsSorted}
use Rattle.std.specs.Ordering.{nat_cmp}
use Rattle.std.specs.Cmp.Lexicographic.{slice_cmp}
use Rattle.index_model.specs.Hashes.{name_hash}
use Rattle.index_model.specs.Layout.{below, ended, start_of}
use Rattle.index_model.specs.NameIndex.{Row as IndexRow, string_offset}
use Rattle.query_engine.specs.declared.listing.ListedName.{ListedName}
use Rattle.debugnames_write.specs.declared.groups.NameEntries.{NameEntries}
use Rattle.debugnames_write.specs.declared.item.IndexEntry.{IndexEntry}
use Rattle.debugnames_write.specs.declared.name.Name.{Name}
use Rattle.debugnames_write.specs.declared.name.NameTable.{NameTable}
use Rattle.debugnames_write.specs.declared.pool.PoolPlaces.{PoolPlaces}
use Rattle.debugnames_write.specs.Groups.{group_names}
use Rattle.debugnames_write.specs.Laid.{groups_bytes, pool_bytes}
use Rattle.debugnames_write.specs.Rows.{row_seen}
use Rattle.debugnames_write.specs.Seen.{name_key}

-- a name with its entries
abbrev pub Kept : Type 0
Kept = List ℕ × List IndexEntry

-- the names, each with as many of the entries as it has, of one name after the other
unfoldable pub cut : List IndexEntry → List ListedName → List Kept
cut items [] = []
cut items (n ∷ ns) = (n.name.now, take n.count items) ∷ cut (drop n.count items) ns

-- what a name keeps of its group
abbrev pub kept_of_name : Name → Kept
kept_of_name n = (n.text.now, n.items.now)

-- what a group has
abbrev pub kept_of_group : NameEntries → Kept
kept_of_group g = (g.name.now, g.items.now)

-- a name of these strings, which begin at a place of `.debug_str`
pub record IsNameOf (strings : List (List ℕ)) (old_strings : ℕ) (n : Name) : Type 0 where
  pub hash : n.hash ≡ name_hash n.text.now
  pub bucket : n.bucket ≡ name_hash n.text.now % length strings
  pub string : n.string ≡ string_offset old_strings strings n.text.now

-- the names of these groups in byte order, and the place behind their strings
pub record AreNamesOf (gs : List NameEntries) (old_strings : ℕ) (ns : NameTable) : Type 0 where
  pub kept : map kept_of_name ns.names.items ≡ map kept_of_group gs
  pub each : All (IsNameOf (group_names gs) old_strings) ns.names.items
  pub end : ns.strings_end ≡ old_strings + length (flat_map ended (group_names gs))
  pub fits : ns.strings_end ≤ 4294967295

-- the same names in the order of the index
pub record AreSortedNamesOf (gs : List NameEntries) (old_strings : ℕ) (ns : NameTable) : Type 0 where
  pub made : NameTable
  pub made_are : AreNamesOf gs old_strings made
  pub moved : IsPermutation made.names.items ns.names.items
  pub in_order : IsSorted (λ x y. slice_cmp nat_cmp (name_key x) (name_key y)) ns.names.items
  pub end : ns.strings_end ≡ made.strings_end

-- the strings pass the greatest size of `.debug_str`
abbrev pub StringsPass : List NameEntries → ℕ → Type 0
StringsPass gs old_strings = 4294967295 < old_strings + length (flat_map ended (group_names gs))

-- where the entries of each name begin in the pool, and its size
pub record ArePlacesIn (rows : List IndexRow) (names : List Name) (p : PoolPlaces) : Type 0 where
  pub starts : p.starts.items ≡ map (start_of (groups_bytes rows names)) (below (length names))
  pub size : p.size ≡ length (pool_bytes rows names)
  pub fits : p.size ≤ 4294967283

-- the bucket of each name is that of its hash, among as many buckets as names
abbrev pub HaveBuckets : List Name → Type 0
HaveBuckets names = All (λ n. (n.bucket ≡ name_hash n.text.now % length names) × (n.bucket < length names)) names

-- each of these entries has an abbreviation
abbrev pub HaveRows : List IndexRow → List IndexEntry → Type 0
HaveRows rows items = All (λ i. Contains rows (row_seen i.row)) items

-- The parts put together are the index.
use Rattle.std.proofs.Common.{◌≡◌, ℕ, ◌+◌, ◌*◌, true, false, List, ◌++◌, length, get_or, map, refl, sym, ap, ◌∙◌, subst, arith, length-append, append_assoc}
use Rattle.std.specs.Prelude.{All, Contains, bytes_eq, flat_map}
use Rattle.std.proofs.lemmas.List.{get_or-map, length-map}
use Rattle.std.proofs.lemmas.List.Elements.{All-map, All-filter, All-contains_itself, All-weaker}
use Rattle.std.proofs.lemmas.List.FromFn.{length-range_with_len}
use Rattle.common_laws.proofs.Members.{to_map}
use Rattle.common_laws.proofs.Lists.{length_of_fours}
use Rattle.common_laws.proofs.Appended.{flat_map-map}
use Rattle.index_model.specs.declared.entry.Entry.{Entry}
use Rattle.index_model.specs.declared.unit.Unit.{Unit as UnitHeader}
use Rattle.index_model.specs.Hashes.{name_hash}
use Rattle.index_model.specs.Layout.{below, u32_bytes, ended, start_of}
use Rattle.index_model.specs.NameIndex.{Indexed, Row as IndexRow, all_indexed, names_in, in_index_order, row_of, row_lt, rows_of, entry_bytes, group, bucket, string_offset, units_of_sort, unit_offsets, abbreviation_table, name_index_bytes}
use Rattle.debugnames_write.specs.declared.groups.NameEntries.{NameEntries}
use Rattle.debugnames_write.specs.declared.item.IndexEntry.{IndexEntry}
use Rattle.debugnames_write.specs.declared.name.Name.{Name}
use Rattle.debugnames_write.specs.Groups.{IsGroupOf, entries_named, entries_of, group_names}
use Rattle.debugnames_write.specs.Laid.{groups_bytes, head_bytes, bucket_bytes, hash_bytes, string_bytes, start_bytes, pool_bytes, laid_out}
use Rattle.debugnames_write.specs.Names.{Kept, kept_of_name, kept_of_group, IsNameOf, HaveRows}
use Rattle.debugnames_write.specs.Rows.{row_seen}
use Rattle.debugnames_write.specs.Seen.{item_seen, items_seen, nameless, texts}
use Rattle.debugnames_write.proofs.Lists.{flat_map_same, map_same, map-map}
use Rattle.index_model.proofs.Orders.{ascending_has}
use Rattle.index_model.proofs.IndexOrders.{row_order}
use Rattle.debugnames_write.proofs.PoolLaws.{name_bytes}

-- ---- each entry has a row

pub all_unmap : {X Y : Type 0} (P : Y → Type 0) (f : X → Y) (xs : List X) → All P (map f xs) → All (λ x. P (f x)) xs
all_unmap P f xs h k d lt = let size = length-map xs f in subst P (get_or-map f xs k d (f d) lt) (h k (f d) (omega (arith, size)))

pub have_rows : (es : List Indexed) (name : List ℕ) (items : List IndexEntry) → items_seen items ≡ entries_of es name → HaveRows (rows_of es) items
have_rows es name items own =
    let all : All (Contains es) (entries_named name es) = All-filter (λ (e : Indexed). bytes_eq e.name name) (Contains es) es (All-contains_itself es) in
    let rows : All (λ (e : Indexed). Contains (map row_of es) (row_of e)) (entries_named name es) = All-weaker (Contains es) (λ (e : Indexed). Contains (map row_of es) (row_of e)) (to_map row_of es) (entries_named name es) all in
    let bare : All (λ (e : Indexed). Contains (map row_of es) (row_of e)) (entries_of es name) = All-map (λ (e : Indexed). Contains (map row_of es) (row_of e)) nameless (entries_named name es) rows in
    let seen : All (λ (e : Indexed). Contains (map row_of es) (row_of e)) (items_seen items) = subst (λ (w : List Indexed). All (λ (e : Indexed). Contains (map row_of es) (row_of e)) w) (sym own) bare in
    λ k d lt. ascending_has row_lt row_order (map row_of es) (row_seen (get_or items k d).row) (all_unmap (λ (e : Indexed). Contains (map row_of es) (row_of e)) item_seen items seen k d lt)

-- ---- names and groups

module _ (names : List Name) (gs : List NameEntries) (kept : map kept_of_name names ≡ map kept_of_group gs) where
  pub kept_texts : texts names ≡ group_names gs
  kept_texts = sym (map-map (λ (p : Kept). p.0) kept_of_name names) ∙ ap (map (λ (p : Kept). p.0)) kept ∙ map-map (λ (p : Kept). p.0) kept_of_group gs

  abbrev Own : List Indexed → Kept → Type 0
  Own es p = items_seen p.1 ≡ entries_of es p.0

  pub kept_items : (es : List Indexed) → All (IsGroupOf es) gs → All (λ n. items_seen n.items.now ≡ entries_of es n.text.now) names
  kept_items es each =
      let own : All (Own es) (map kept_of_group gs) = All-map (Own es) kept_of_group gs each in
      let moved : All (Own es) (map kept_of_name names) = subst (λ (w : List Kept). All (Own es) w) (sym kept) own in
      λ k d lt. all_unmap (Own es) kept_of_name names moved k d lt

-- ---- the bytes

abbrev framed : List UnitHeader → List ℕ → ℕ → List ℕ → List ℕ → List ℕ → List ℕ → List ℕ → List ℕ
framed units table n buckets hashes strings starts pool =
    let body = head_bytes units n table ++ (unit_offsets false units ++ unit_offsets true units) ++ (buckets ++ hashes ++ strings ++ starts) ++ table ++ pool in
    u32_bytes (length body) ++ body

module _ (units : List UnitHeader) (old : ℕ) (entries : List Entry) (names : List Name) (order : texts names ≡ in_index_order (names_in (all_indexed units entries)))
    (each : All (IsNameOf (names_in (all_indexed units entries)) old) names) (own : All (λ n. items_seen n.items.now ≡ entries_of (all_indexed units entries) n.text.now) names) where
  abbrev es : List Indexed
  es = all_indexed units entries

  abbrev rows : List IndexRow
  rows = rows_of (all_indexed units entries)

  abbrev strings : List (List ℕ)
  strings = names_in (all_indexed units entries)

  abbrev ordered : List (List ℕ)
  ordered = in_index_order (names_in (all_indexed units entries))

  many : length names ≡ length ordered
  many = sym (length-map names (λ (n : Name). n.text.now)) ∙ ap (λ (w : List (List ℕ)). length w) order

  groups_are : groups_bytes rows names ≡ map (group rows es) ordered
  groups_are =
      map_same (name_bytes rows) (λ (n : Name). group rows es n.text.now) names (λ k d lt. ap (λ (w : List Indexed). ended (flat_map (entry_bytes rows) w)) (own k d lt) ∙ ap ended (flat_map-map (entry_bytes rows) nameless (entries_named (get_or names k d).text.now es)))
      ∙ sym (map-map (group rows es) (λ (n : Name). n.text.now) names) ∙ ap (map (group rows es)) order

  hashes_are : hash_bytes names ≡ flat_map (λ t. u32_bytes (name_hash t)) ordered
  hashes_are =
      flat_map_same (λ (n : Name). u32_bytes n.hash) (λ (n : Name). u32_bytes (name_hash n.text.now)) names (λ k d lt. ap u32_bytes (each k d lt).hash)
      ∙ sym (flat_map-map (λ (t : List ℕ). u32_bytes (name_hash t)) (λ (n : Name). n.text.now) names) ∙ ap (flat_map (λ (t : List ℕ). u32_bytes (name_hash t))) order

  strings_are : string_bytes names ≡ flat_map (λ t. u32_bytes (string_offset old strings t)) ordered
  strings_are =
      flat_map_same (λ (n : Name). u32_bytes n.string) (λ (n : Name). u32_bytes (string_offset old strings n.text.now)) names (λ k d lt. ap u32_bytes (each k d lt).string)
      ∙ sym (flat_map-map (λ (t : List ℕ). u32_bytes (string_offset old strings t)) (λ (n : Name). n.text.now) names) ∙ ap (flat_map (λ (t : List ℕ). u32_bytes (string_offset old strings t))) order

  buckets_are : bucket_bytes names ≡ flat_map (λ b. u32_bytes (bucket ordered b)) (below (length ordered))
  buckets_are = λ i. flat_map (λ b. u32_bytes (bucket (order i) b)) (below (many i))

  starts_are : start_bytes rows names ≡ flat_map (λ k. u32_bytes (start_of (map (group rows es) ordered) k)) (below (length ordered))
  starts_are = λ i. flat_map (λ k. u32_bytes (start_of (groups_are i) k)) (below (many i))

  pool_is : pool_bytes rows names ≡ flat_map (λ g. g) (map (group rows es) ordered)
  pool_is = ap (flat_map (λ (g : List ℕ). g)) groups_are

  pub whole_is : laid_out units rows names ≡ name_index_bytes units old entries
  unfolding name_index_bytes laid_out
  whole_is = λ i. framed units (abbreviation_table rows) (many i) (buckets_are i) (hashes_are i) (strings_are i) (starts_are i) (pool_is i)

-- ---- its length

pub laid_size : (units : List UnitHeader) (rows : List IndexRow) (names : List Name) → length (laid_out units rows names) ≡
    36 + (length (units_of_sort false units) + length (units_of_sort true units)) * 4 + length names * 16 + length (abbreviation_table rows) + length (pool_bytes rows names)
unfolding laid_out
laid_size units kinds names =
    let head : List ℕ = head_bytes units (length names) (abbreviation_table kinds) in
    let head_size : length head ≡ 32 = refl in
    let cus : List ℕ = unit_offsets false units in
    let tus : List ℕ = unit_offsets true units in
    let cus_size : length cus ≡ length (units_of_sort false units) * 4 = length_of_fours (λ (u : ℕ × UnitHeader). u32_bytes u.1.start) (units_of_sort false units) (λ u. refl) in
    let tus_size : length tus ≡ length (units_of_sort true units) * 4 = length_of_fours (λ (u : ℕ × UnitHeader). u32_bytes u.1.start) (units_of_sort true units) (λ u. refl) in
    let b : List ℕ = bucket_bytes names in
    let h : List ℕ = hash_bytes names in
    let s : List ℕ = string_bytes names in
    let t : List ℕ = start_bytes kinds names in
    let places : length (below (length names)) ≡ length names = length-range_with_len 0 (length names) in
    let b_size : length b ≡ length names * 4 = length_of_fours (λ (k : ℕ). u32_bytes (bucket (texts names) k)) (below (length names)) (λ k. refl) ∙ ap (λ (n : ℕ). n * 4) places in
    let h_size : length h ≡ length names * 4 = length_of_fours (λ (n : Name). u32_bytes n.hash) names (λ n. refl) in
    let s_size : length s ≡ length names * 4 = length_of_fours (λ (n : Name). u32_bytes n.string) names (λ n. refl) in
    let t_size : length t ≡ length names * 4 = length_of_fours (λ (k : ℕ). u32_bytes (start_of (groups_bytes kinds names) k)) (below (length names)) (λ k. refl) ∙ ap (λ (n : ℕ). n * 4) places in
    let table : List ℕ = abbreviation_table kinds in
    let pool : List ℕ = pool_bytes kinds names in
    let size : ℕ = 32 + (length (units_of_sort false units) + length (units_of_sort true units)) * 4 + length names * 16 + length table + length pool in
    let body : List ℕ = head ++ (cus ++ tus) ++ (b ++ h ++ s ++ t) ++ table ++ pool in
    let lists : length (cus ++ tus) ≡ length cus + length tus = length-append cus tus in
    let front : length (head ++ (cus ++ tus)) ≡ 32 + length (cus ++ tus) = length-append head (cus ++ tus) in
    let tables : length (b ++ h ++ s ++ t) ≡ length b + length h + length s + length t = length-append (b ++ h ++ s) t ∙ ap (λ (n : ℕ). n + length t) (length-append (b ++ h) s ∙ ap (λ (n : ℕ). n + length s) (length-append b h)) in
    let third : length (head ++ (cus ++ tus) ++ (b ++ h ++ s ++ t)) ≡ length (head ++ (cus ++ tus)) + length (b ++ h ++ s ++ t) = length-append (head ++ (cus ++ tus)) (b ++ h ++ s ++ t) in
    let fourth : length (head ++ (cus ++ tus) ++ (b ++ h ++ s ++ t) ++ table) ≡ length (head ++ (cus ++ tus) ++ (b ++ h ++ s ++ t)) + length table = length-append (head ++ (cus ++ tus) ++ (b ++ h ++ s ++ t)) table in
    let fifth : length body ≡ length (head ++ (cus ++ tus) ++ (b ++ h ++ s ++ t) ++ table) + length pool = length-append (head ++ (cus ++ tus) ++ (b ++ h ++ s ++ t) ++ table) pool in
    let four : length (u32_bytes (length body) ++ body) ≡ 4 + length body = length-append (u32_bytes (length body)) body in
    four ∙ sums (length cus) (length tus) (length b) (length h) (length s) (length t) (length table) (length pool) (length (units_of_sort false units)) (length (units_of_sort true units)) (length names) (length body)
    cus_size tus_size b_size h_size s_size t_size
    (fifth ∙ ap (λ (n : ℕ). n + length pool) (fourth ∙ ap (λ (n : ℕ). n + length table) (third ∙ (λ i. front i + tables i) ∙ (λ i. 32 + lists i + (length b + length h + length s + length t)))))
  where
    sums : (cus tus b h s t table pool compile types n body : ℕ) → cus ≡ compile * 4 → tus ≡ types * 4 → b ≡ n * 4 → h ≡ n * 4 → s ≡ n * 4 → t ≡ n * 4
        → body ≡ 32 + (cus + tus) + (b + h + s + t) + table + pool → 4 + body ≡ 36 + (compile + types) * 4 + n * 16 + table + pool
    sums cus tus b h s t table pool compile types n body c1 c2 c3 c4 c5 c6 e = omega arith

-- ---- one push after another

pub pushed : (a b c d e f g h j k : List ℕ) → (((((((((a ++ b) ++ c) ++ d) ++ e) ++ f) ++ g) ++ h) ++ j) ++ k) ≡ a ++ (b ++ (c ++ d) ++ (e ++ f ++ g ++ h) ++ j ++ k)
pushed a b c d e f g h j k = simp append_assoc

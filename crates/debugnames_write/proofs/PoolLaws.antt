-- The entry pool, group by group.
use Rattle.std.proofs.Common.{◌≡◌, ℕ, ◌+◌, ◌-◌, ◌^◌, ◌<◌, ◌≤◌, min, List, [], ◌∷◌, ◌++◌, length, get_or, take, map, refl, sym, ap, ◌∙◌, arith, length-append, append_assoc}
use Rattle.std.specs.Prelude.{flat_map}
use Rattle.std.proofs.lemmas.List.Folds.{length-flat_map-take}
use Rattle.std.proofs.lemmas.List.{take_more, take_all, get_or_default, get_or-map, length-map}
use Rattle.std.proofs.lemmas.List.FromFn.{map-range_with_len_more}
use Rattle.std.proofs.lemmas.List.Concat.{flat_map-append}
use Rattle.common_laws.proofs.Appended.{flat_map-map}
use Rattle.index_model.specs.Layout.{below, u32_bytes, ended, start_of}
use Rattle.index_model.specs.NameIndex.{Row as IndexRow, uleb_bytes, entry_bytes, row_eq}
use Rattle.index_model.specs.Ordered.{place_of}
use Rattle.debugnames_write.specs.declared.item.IndexEntry.{IndexEntry}
use Rattle.debugnames_write.specs.declared.name.Name.{Name}
use Rattle.debugnames_write.specs.declared.pool.PoolPlaces.{PoolPlaces}
use Rattle.debugnames_write.specs.Laid.{entries_bytes, groups_bytes, group_sizes, pool_bytes}
use Rattle.debugnames_write.specs.Names.{ArePlacesIn}
use Rattle.debugnames_write.specs.Rows.{row_seen}
use Rattle.debugnames_write.specs.Seen.{item_seen}
use Rattle.debugnames_write.proofs.NameLaws.{start_is}

-- the items before one and that one
pub flat_map_at : {X Y : Type 0} (f : X → List Y) (xs : List X) (i : ℕ) (x : X) → i < length xs → x ≡ get_or xs i x → flat_map f (take (i + 1) xs) ≡ flat_map f (take i xs) ++ f x
flat_map_at {Y = Y} f xs i x lt is =
    let front : take (i + 1) xs ≡ take i xs ++ x ∷ [] = rw (take_more xs i x lt, ← is) refl in
    ap (flat_map f) front ∙ flat_map-append f (take i xs) (x ∷ []) ∙ ap (λ (w : List Y). flat_map f (take i xs) ++ w) (append_nil (f x))
  where
    append_nil : (ys : List Y) → ys ++ [] ≡ ys
    append_nil [] = refl
    append_nil (y ∷ ys) = ap (λ (w : List Y). y ∷ w) (append_nil ys)

-- they aren't longer than all
pub flat_map_up : {X Y : Type 0} (f : X → List Y) (xs : List X) (i : ℕ) (x : X) → i < length xs → x ≡ get_or xs i x → length (flat_map f (take i xs)) + length (f x) ≤ length (flat_map f xs)
flat_map_up f xs i x lt is = let h = length-flat_map-take f xs i x lt in rw (← is) at h

-- ---- entries

abbrev pub item_bytes : List IndexRow → IndexEntry → List ℕ
item_bytes rows i = entry_bytes rows (item_seen i)

pub item_size : (rows : List IndexRow) (i : IndexEntry) → length (item_bytes rows i) ≡ length (uleb_bytes (place_of row_eq (row_seen i.row) rows + 1)) + length (uleb_bytes i.unit) + 4
item_size rows i =
    let code : List ℕ = uleb_bytes (place_of row_eq (row_seen i.row) rows + 1) in
    length-append (code ++ uleb_bytes i.unit) (u32_bytes i.offset) ∙ ap (λ (n : ℕ). n + 4) (length-append code (uleb_bytes i.unit))

pub entries_are : (rows : List IndexRow) (items : List IndexEntry) → entries_bytes rows items ≡ flat_map (item_bytes rows) items ++ 0 ∷ []
entries_are rows items = ap ended (flat_map-map (entry_bytes rows) item_seen items)

pub entries_size : (rows : List IndexRow) (items : List IndexEntry) → length (entries_bytes rows items) ≡ length (flat_map (item_bytes rows) items) + 1
entries_size rows items = ap (λ (w : List ℕ). length w) (entries_are rows items) ∙ length-append (flat_map (item_bytes rows) items) (0 ∷ [])

-- ---- groups

abbrev pub name_bytes : List IndexRow → Name → List ℕ
name_bytes rows n = entries_bytes rows n.items.now

pub pool_is : (rows : List IndexRow) (names : List Name) → pool_bytes rows names ≡ flat_map (name_bytes rows) names
pool_is rows names = flat_map-map (λ (g : List ℕ). g) (name_bytes rows) names

pub pool_of_both : (rows : List IndexRow) (low high : List Name) → pool_bytes rows (low ++ high) ≡ pool_bytes rows low ++ pool_bytes rows high
pool_of_both rows low high =
    let one = pool_is rows low in
    let two = pool_is rows high in
    pool_is rows (low ++ high) ∙ flat_map-append (name_bytes rows) low high ∙ sym (λ i. one i ++ two i)

pub pool_start : (rows : List IndexRow) (names : List Name) (k : ℕ) → start_of (groups_bytes rows names) k ≡ length (flat_map (name_bytes rows) (take k names))
pool_start rows names k = start_is (name_bytes rows) names k

-- ---- the loops

-- one entry more, of a number that is kept below 2 ^ 64
pub group_more : (rows : List IndexRow) (items : List IndexEntry) (i : ℕ) (d : IndexEntry) (size more next : ℕ) → i < length items → size ≡ min (length (flat_map (item_bytes rows) (take i items)) + 1) (2 ^ 64 - 1)
    → more ≡ length (uleb_bytes (place_of row_eq (row_seen (get_or items i d).row) rows + 1)) + length (uleb_bytes (get_or items i d).unit) + 4
    → next ≡ min (size + more) (2 ^ 64 - 1) → next ≡ min (length (flat_map (item_bytes rows) (take (i + 1) items)) + 1) (2 ^ 64 - 1)
group_more rows items i d size more next lt is is_more sum =
    let x : IndexEntry = get_or items i d in
    let on : length (flat_map (item_bytes rows) (take (i + 1) items)) ≡ length (flat_map (item_bytes rows) (take i items)) + length (item_bytes rows x) =
    ap (λ (w : List ℕ). length w) (flat_map_at (item_bytes rows) items i x lt (get_or_default items i d x lt)) ∙ length-append (flat_map (item_bytes rows) (take i items)) (item_bytes rows x) in
    omega (arith, on, item_size rows x)

pub group_whole : (rows : List IndexRow) (items : List IndexEntry) (i size : ℕ) → length items ≤ i → size ≡ min (length (flat_map (item_bytes rows) (take i items)) + 1) (2 ^ 64 - 1) → size ≡ min (length (entries_bytes rows items)) (2 ^ 64 - 1)
group_whole rows items i size le is =
    let whole : length (flat_map (item_bytes rows) (take i items)) ≡ length (flat_map (item_bytes rows) items) = ap (λ (w : List IndexEntry). length (flat_map (item_bytes rows) w)) (take_all i items le) in
    omega (arith, entries_size rows items)

pub group_pushed : (rows : List IndexRow) (items : List IndexEntry) (i : ℕ) (old out new : List ℕ) → length items ≤ i → out ≡ old ++ flat_map (item_bytes rows) (take i items) → new ≡ out ++ 0 ∷ [] → new ≡ old ++ entries_bytes rows items
group_pushed rows items i old out new le is pushed =
    pushed ∙ ap (λ (w : List ℕ). w ++ 0 ∷ []) (is ∙ ap (λ (w : List IndexEntry). old ++ flat_map (item_bytes rows) w) (take_all i items le))
    ∙ append_assoc old (flat_map (item_bytes rows) items) (0 ∷ []) ∙ ap (λ (w : List ℕ). old ++ w) (sym (entries_are rows items))

pub pool_pushed : (rows : List IndexRow) (names : List Name) (i : ℕ) (old out : List ℕ) → length names ≤ i → out ≡ old ++ flat_map (name_bytes rows) (take i names) → out ≡ old ++ pool_bytes rows names
pool_pushed rows names i old out le is = is ∙ ap (λ (w : List Name). old ++ flat_map (name_bytes rows) w) (take_all i names le) ∙ ap (λ (w : List ℕ). old ++ w) (sym (pool_is rows names))

module _ (rows : List IndexRow) (names : List Name) (i : ℕ) (d : Name) (lt : i < length names) where
  is_name : get_or names i d ≡ get_or names i (get_or names i d)
  is_name = get_or_default names i d (get_or names i d) lt

  up : length (flat_map (name_bytes rows) (take i names)) + length (entries_bytes rows (get_or names i d).items.now) ≤ length (pool_bytes rows names)
  up = let h = flat_map_up (name_bytes rows) names i (get_or names i d) lt is_name in let same = ap (λ (w : List ℕ). length w) (pool_is rows names) in omega (arith, h, same)

  pub pool_passes : (size group most : ℕ) → size ≡ length (flat_map (name_bytes rows) (take i names)) → group ≡ length (entries_bytes rows (get_or names i d).items.now) → most < size + group → most < length (pool_bytes rows names)
  pool_passes size group most is is_group pass = omega (arith, up)

  pub pool_more : (size group next : ℕ) → size ≡ length (flat_map (name_bytes rows) (take i names)) → group ≡ length (entries_bytes rows (get_or names i d).items.now) → next ≡ size + group → next ≡ length (flat_map (name_bytes rows) (take (i + 1) names))
  pool_more size group next is is_group sum =
      let on : length (flat_map (name_bytes rows) (take (i + 1) names)) ≡ length (flat_map (name_bytes rows) (take i names)) + length (entries_bytes rows (get_or names i d).items.now) =
      ap (λ (w : List ℕ). length w) (flat_map_at (name_bytes rows) names i (get_or names i d) lt is_name) ∙ length-append (flat_map (name_bytes rows) (take i names)) (entries_bytes rows (get_or names i d).items.now) in
      omega (arith, on)

pub starts_more : (rows : List IndexRow) (names : List Name) (i size : ℕ) (starts : List ℕ) → starts ≡ map (start_of (groups_bytes rows names)) (below i) → size ≡ length (flat_map (name_bytes rows) (take i names))
    → starts ++ size ∷ [] ≡ map (start_of (groups_bytes rows names)) (below (i + 1))
starts_more rows names i size starts is is_size =
    let at : size ≡ start_of (groups_bytes rows names) i = is_size ∙ sym (pool_start rows names i) in
    (λ k. is k ++ at k ∷ []) ∙ sym (map-range_with_len_more (start_of (groups_bytes rows names)) 0 i i (omega arith))

pub places_all : (rows : List IndexRow) (names : List Name) (i : ℕ) (p : PoolPlaces) → length names ≤ i → i ≤ length names → p.starts.items ≡ map (start_of (groups_bytes rows names)) (below i) → p.size ≡ length (flat_map (name_bytes rows) (take i names)) → p.size ≤ 4294967283 → ArePlacesIn rows names p
places_all rows names i p le ge starts size fits =
    let end : i ≡ length names = omega arith in
    record {
      starts = starts ∙ ap (λ (n : ℕ). map (start_of (groups_bytes rows names)) (below n)) end;
      size = size ∙ ap (λ (w : List Name). length (flat_map (name_bytes rows) w)) (take_all i names le) ∙ sym (ap (λ (w : List ℕ). length w) (pool_is rows names));
      fits = fits;
    }

-- ---- where the groups of these sizes begin

pub sizes_long : (rows : List IndexRow) (names : List Name) → length (group_sizes rows names) ≡ length names
sizes_long rows names = length-map (groups_bytes rows names) (λ (g : List ℕ). min (length g) (2 ^ 64 - 1)) ∙ length-map names (name_bytes rows)

pub sized : (rows : List IndexRow) (names : List Name) (k : ℕ) (d : Name) → k < length names → get_or (group_sizes rows names) k 0 ≡ min (length (name_bytes rows (get_or names k d))) (2 ^ 64 - 1)
sized rows names k d lt =
    let many : length (groups_bytes rows names) ≡ length names = length-map names (name_bytes rows) in
    get_or-map (λ (g : List ℕ). min (length g) (2 ^ 64 - 1)) (groups_bytes rows names) k [] 0 (omega (arith, many))
    ∙ ap (λ (g : List ℕ). min (length g) (2 ^ 64 - 1)) (get_or-map (name_bytes rows) names k d [] lt)

-- a size, as it is read with any number for none
pub size_known : (sizes : List ℕ) (rows : List IndexRow) (names : List Name) (k e : ℕ) → sizes ≡ group_sizes rows names → k < length sizes → get_or sizes k e ≡ get_or (group_sizes rows names) k 0
size_known sizes rows names k e are lt = get_or_default sizes k e 0 lt ∙ ap (λ (w : List ℕ). get_or w k 0) are

-- where the groups before one begin, and where they end
pub record AreStartsTo (rows : List IndexRow) (names : List Name) (k : ℕ) (made : List ℕ) (end : ℕ) : Type 0 where
  pub starts : made ≡ map (start_of (groups_bytes rows names)) (below k)
  pub size : end ≡ length (flat_map (name_bytes rows) (take k names))
  pub fits : end ≤ 4294967283

pub starts_none : (rows : List IndexRow) (names : List Name) (made : List ℕ) → made ≡ [] → AreStartsTo rows names 0 made 0
starts_none rows names made none = record { starts = none; size = refl; fits = omega arith }

pub starts_on : (rows : List IndexRow) (names : List Name) (k : ℕ) (made : List ℕ) (end size next : ℕ) → k < length names → size ≡ get_or (group_sizes rows names) k 0 → AreStartsTo rows names k made end
    → next ≡ end + size → next ≤ 4294967283 → AreStartsTo rows names (k + 1) (made ++ end ∷ []) next
starts_on rows [] k made end size next lt is h sum fits = absurd (omega arith)
starts_on rows (n ∷ ns) k made end size next lt is h sum fits =
    let own : size ≡ min (length (name_bytes rows (get_or (n ∷ ns) k n))) (2 ^ 64 - 1) = is ∙ sized rows (n ∷ ns) k n lt in
    let exact : size ≡ length (name_bytes rows (get_or (n ∷ ns) k n)) = omega (arith, own, sum, fits) in
    record {
      starts = starts_more rows (n ∷ ns) k end made h.starts h.size;
      size = pool_more rows (n ∷ ns) k n lt end size next h.size exact sum;
      fits = fits;
    }

pub starts_pass : (rows : List IndexRow) (names : List Name) (k : ℕ) (made : List ℕ) (end size : ℕ) → k < length names → size ≡ get_or (group_sizes rows names) k 0 → AreStartsTo rows names k made end
    → 4294967283 < end + size → 4294967283 < length (pool_bytes rows names)
starts_pass rows [] k made end size lt is h pass = absurd (omega arith)
starts_pass rows (n ∷ ns) k made end size lt is h pass =
    let own : size ≡ min (length (name_bytes rows (get_or (n ∷ ns) k n))) (2 ^ 64 - 1) = is ∙ sized rows (n ∷ ns) k n lt in
    pool_passes rows (n ∷ ns) k n lt end (length (name_bytes rows (get_or (n ∷ ns) k n))) 4294967283 h.size refl (omega (arith, own, pass))

pub starts_all : (rows : List IndexRow) (names : List Name) (k : ℕ) (p : PoolPlaces) → k ≡ length names → AreStartsTo rows names k p.starts.items p.size → ArePlacesIn rows names p
starts_all rows names k p is h = places_all rows names k p (omega arith) (omega arith) h.starts h.size h.fits

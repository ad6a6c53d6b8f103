-- The entries of names, one name after the other, and names that have some.
use Rattle.std.proofs.Common.{◌≡◌, ◌≢◌, ℕ, zero, suc, ◌+◌, ◌<◌, ◌⊎◌, Bool, true, false, List, [], ◌∷◌, ◌++◌, length, get_or, take, map, refl, sym, ap, ◌∙◌, subst, inl, inr, arith}
use Rattle.std.specs.Prelude.{All, Contains, bytes_eq, filter, flat_map, nat_lt}
use Rattle.std.proofs.lemmas.Bool.{lt-ltb, true≢false}
use Rattle.std.proofs.lemmas.List.{get_or_default, length-map, map-append, map-id, map_more}
use Rattle.std.proofs.lemmas.List.Concat.{flat_map-append}
use Rattle.std.proofs.lemmas.List.Elements.{All-map, filter-append}
use Rattle.common_laws.proofs.Filters.{map_filter, map_map}
use Rattle.common_laws.proofs.Members.{contains_here, contains_later, of_filter, of_flat_map, of_map, to_filter, to_flat_map, to_map}
use Rattle.index_model.specs.declared.entry.Entry.{Entry}
use Rattle.index_model.specs.declared.unit.Unit.{Unit as UnitHeader}
use Rattle.index_model.specs.Answers.{places, entries_at}
use Rattle.index_model.specs.NameIndex.{Indexed, all_indexed, names_in, row_of, row_lt, rows_of}
use Rattle.index_model.specs.Order.{Rises}
use Rattle.index_model.specs.Ordered.{bytes_lt}
use Rattle.index_model.proofs.IndexOrders.{row_order}
use Rattle.index_model.proofs.Orders.{bytes_order, rises_from_pairs, ascending_is, ascending_rises, ascending_has, ascending_only}
use Rattle.query_engine.specs.declared.listing.ListedName.{ListedName}
use Rattle.query_engine.specs.declared.listing.ListedNames.{ListedNames}
use Rattle.query_engine.specs.Listed.{is_listed, names_of, AreListedBy}
use Rattle.query_engine.specs.Marks.{text_with}
use Rattle.query_engine.proofs.OrderLaws.{flat_push}
use Rattle.query_engine.proofs.PlacedEntries.{entries_at_places}
use Rattle.query_engine.proofs.TextOrder.{lt_from_before, same_from_eq, eq_from_same}
use Rattle.debugnames_write.specs.declared.item.IndexEntry.{IndexEntry}
use Rattle.debugnames_write.specs.declared.listed.ListedItems.{ListedItems}
use Rattle.debugnames_write.specs.Groups.{entries_named, entries_of}
use Rattle.debugnames_write.specs.Items.{Counted, AreItemsOf, AreSortedItems, counted, names_counted, some_counted}
use Rattle.debugnames_write.specs.Seen.{item_seen, items_seen, nameless}
use Rattle.debugnames_write.proofs.IndexedLaws.{indexed_named}
use Rattle.debugnames_write.proofs.PartLaws.{names_append}
use Rattle.debugnames_write.proofs.UnitLaws.{indexed_none}
use Rattle.debugnames_write.proofs.Whole.{all_unmap}

-- ---- one name more

module _ (es : List Indexed) (ns : List ListedName) (k : ℕ) (d : ListedName) (lt : k < length ns) where
  abbrev own : List ℕ
  own = (get_or ns k d).name.now

  names_more : names_of (take (k + 1) ns) ≡ names_of (take k ns) ++ own ∷ []
  names_more = map_more (λ (n : ListedName). n.name.now) ns k d lt

  pub items_more : (old new : List IndexEntry) (added : List Indexed) → items_seen old ≡ flat_map (entries_of es) (names_of (take k ns)) → items_seen new ≡ items_seen old ++ map nameless added → added ≡ entries_named own es
      → items_seen new ≡ flat_map (entries_of es) (names_of (take (k + 1) ns))
  items_more old new added inv is are =
      is ∙ (λ i. inv i ++ map nameless (are i)) ∙ sym (ap (flat_map (entries_of es)) names_more ∙ flat_push (entries_of es) (names_of (take k ns)) own)

  pub counts_more : (old new : List ListedName) (count : ℕ) → names_counted old ≡ some_counted (map (counted es) (names_of (take k ns))) → names_counted new ≡ names_counted old ++ some_counted ((own, count) ∷ []) → count ≡ length (entries_named own es)
      → names_counted new ≡ some_counted (map (counted es) (names_of (take (k + 1) ns)))
  counts_more old new count inv is size =
      is ∙ (λ i. inv i ++ some_counted ((own, size i) ∷ []))
      ∙ sym (ap (λ (w : List (List ℕ)). some_counted (map (counted es) w)) names_more ∙ ap some_counted (map-append (counted es) (names_of (take k ns)) (own ∷ []))
      ∙ filter-append (λ (c : Counted). nat_lt 0 c.1) (map (counted es) (names_of (take k ns))) (counted es own ∷ []))

-- the entries at the places of a name are those with it
pub own_entries : (units : List UnitHeader) (es : List Entry) (t ps : List ℕ) → ps ≡ places (is_listed t) es → all_indexed units (entries_at es ps) ≡ entries_named t (all_indexed units es)
own_entries units es t ps are =
    ap (λ (w : List ℕ). all_indexed units (entries_at es w)) are ∙ ap (all_indexed units) (entries_at_places (is_listed t) es) ∙ indexed_named units t es

-- ---- two parts

pub items_join : (es : List Indexed) (low high : List ListedName) (a b c : ListedItems) → AreItemsOf es (names_of low) a → AreItemsOf es (names_of high) b
    → c.names.items ≡ a.names.items ++ b.names.items → c.items.items ≡ a.items.items ++ b.items.items → AreItemsOf es (names_of (low ++ high)) c
items_join es low high a b c first second names items = record {
  names =
      ap names_counted names ∙ map-append (λ (n : ListedName). (n.name.now, n.count)) a.names.items b.names.items ∙ (λ i. first.names i ++ second.names i)
      ∙ sym (ap (λ (w : List (List ℕ)). some_counted (map (counted es) w)) (names_append low high) ∙ ap some_counted (map-append (counted es) (names_of low) (names_of high))
      ∙ filter-append (λ (c : Counted). nat_lt 0 c.1) (map (counted es) (names_of low)) (map (counted es) (names_of high)));
  items =
      ap items_seen items ∙ map-append item_seen a.items.items b.items.items ∙ (λ i. first.items i ++ second.items i)
      ∙ sym (ap (flat_map (entries_of es)) (names_append low high) ∙ flat_map-append (entries_of es) (names_of low) (names_of high));
}

-- ---- names that have entries

none_from : {X : Type 0} (xs : List X) → nat_lt 0 (length xs) ≡ false → xs ≡ []
none_from [] e = refl
none_from (x ∷ xs) e = absurd (true≢false (sym (lt-ltb 0 (length (x ∷ xs)) (omega arith)) ∙ e))

some_from : {X : Type 0} (xs : List X) → nat_lt 0 (length xs) ≡ true → 0 < length xs
some_from [] e = absurd (true≢false (sym e))
some_from (x ∷ xs) e = omega arith

some_to : {X : Type 0} (xs : List X) → 0 < length xs → nat_lt 0 (length xs) ≡ true
some_to xs lt = lt-ltb 0 (length xs) lt

flat_filter : {X Y : Type 0} (f : X → List Y) (p : X → Bool) → ((x : X) → p x ≡ false → f x ≡ []) → (xs : List X) → flat_map f xs ≡ flat_map f (filter p xs)
flat_filter f p none [] = refl
flat_filter f p none (x ∷ xs) = by (p x) refl (flat_filter f p none xs)
  where
    by : (b : Bool) → p x ≡ b → flat_map f xs ≡ flat_map f (filter p xs) → flat_map f (x ∷ xs) ≡ flat_map f (filter p (x ∷ xs))
    by true e rest = rw e (ap (λ w. f x ++ w) rest)
    by false e rest = rw e (ap (λ w. w ++ flat_map f xs) (none x e) ∙ rest)

rises_filter : {X : Type 0} (less : X → X → Bool) (p : X → Bool) (xs : List X) → Rises less xs → Rises less (filter p xs)
rises_filter less p [] r = tt
rises_filter less p (x ∷ xs) r = by (p x) refl (rises_filter less p xs r.1)
  where
    by : (b : Bool) → p x ≡ b → Rises less (filter p xs) → Rises less (filter p (x ∷ xs))
    by true e rest = rw e (λ y c. r.0 y (of_filter p xs y c).0, rest)
    by false e rest = rw e rest

-- whether a text is one of these
one_of : (ts : List (List ℕ)) (z : List ℕ) → Contains ts z ⊎ ((k : ℕ) → k < length ts → text_with ts k ≢ z)
one_of [] z = inr (λ k lt. absurd (omega arith))
one_of (t ∷ ts) z = by (bytes_eq t z) refl (one_of ts z)
  where
    by : (b : Bool) → bytes_eq t z ≡ b → Contains ts z ⊎ ((k : ℕ) → k < length ts → text_with ts k ≢ z) → Contains (t ∷ ts) z ⊎ ((k : ℕ) → k < length (t ∷ ts) → text_with (t ∷ ts) k ≢ z)
    by true e rest = inl (subst (Contains (t ∷ ts)) (same_from_eq t z e) (contains_here t ts))
    by false e rest = elim rest [
      | inl there ↦ inl (contains_later t ts z there)
      | inr none ↦ inr (other e none)
    ]
      where
        other : bytes_eq t z ≡ false → ((k : ℕ) → k < length ts → text_with ts k ≢ z) → (k : ℕ) → k < length (t ∷ ts) → text_with (t ∷ ts) k ≢ z
        other e none zero lt same = absurd (let bad : true ≡ false = sym (eq_from_same t z same) ∙ e in cc)
        other e none (suc k) lt same = none k (omega arith) same

named_some : (z : List ℕ) (es : List Indexed) → Contains (map (λ e. e.name) es) z → 0 < length (entries_named z es)
named_some z es c =
    let r = of_map (λ (e : Indexed). e.name) es z c in
    let there = to_filter (λ (e : Indexed). bytes_eq e.name z) es r.0 r.1 (eq_from_same r.0.name z r.2) in
    omega (arith, there.1)

some_named : (z : List ℕ) (es : List Indexed) → 0 < length (entries_named z es) → Contains (map (λ e. e.name) es) z
some_named z es lt = by (entries_named z es) refl lt
  where
    by : (xs : List Indexed) → entries_named z es ≡ xs → 0 < length xs → Contains (map (λ e. e.name) es) z
    by [] is lt = absurd (omega arith)
    by (x ∷ xs) is lt =
        let own = of_filter (λ (e : Indexed). bytes_eq e.name z) es x (subst (λ (w : List Indexed). Contains w x) (sym is) (contains_here x xs)) in
        subst (Contains (map (λ (e : Indexed). e.name) es)) (same_from_eq x.name z own.1) (to_map (λ (e : Indexed). e.name) es x own.0)

module _ (es : List Indexed) (ts : List (List ℕ)) (l : ListedItems) (h : AreItemsOf es ts l) where
  abbrev has_some : List ℕ → Bool
  has_some t = nat_lt 0 (length (entries_named t es))

  abbrev some : List (List ℕ)
  some = filter has_some ts

  counted_are : names_counted l.names.items ≡ map (counted es) some
  counted_are = h.names ∙ sym (map_filter (counted es) (λ (c : Counted). nat_lt 0 c.1) ts)

  names_are : names_of l.names.items ≡ some
  names_are =
      sym (map_map (λ (n : ListedName). (n.name.now, n.count)) (λ (c : Counted). c.0) l.names.items) ∙ ap (map (λ (c : Counted). c.0)) counted_are
      ∙ map_map (counted es) (λ (c : Counted). c.0) some ∙ map-id some

  abbrev IsRight : Counted → Type 0
  IsRight c = c.1 ≡ length (entries_of es c.0)

  counts_are : All (λ n. n.count ≡ length (entries_of es n.name.now)) l.names.items
  counts_are =
      let each : All IsRight (map (counted es) some) = All-map IsRight (counted es) some (λ k d lt. sym (length-map (entries_named (get_or some k d) es) nameless)) in
      all_unmap IsRight (λ (n : ListedName). (n.name.now, n.count)) l.names.items (subst (All IsRight) (sym counted_are) each)

  no_entries : (t : List ℕ) → has_some t ≡ false → entries_of es t ≡ []
  no_entries t e = ap (map nameless) (none_from (entries_named t es) e)

  items_are : items_seen l.items.items ≡ flat_map (entries_of es) (names_of l.names.items)
  items_are = h.items ∙ flat_filter (entries_of es) has_some no_entries ts ∙ ap (flat_map (entries_of es)) (sym names_are)

  -- where the names ascend and no entry has another
  module _ (rises : Rises bytes_lt ts) (all : (z : List ℕ) → 0 < length (entries_named z es) → Contains ts z) where
    abbrev every : List (List ℕ)
    every = map (λ (e : Indexed). e.name) es

    are_names : names_in es ≡ some
    are_names = ascending_is bytes_lt bytes_order every some (rises_filter bytes_lt has_some ts rises)
        (λ z c. (let has = named_some z es c in to_filter has_some ts z (all z has) (some_to (entries_named z es) has)))
        (λ z c. some_named z es (some_from (entries_named z es) (of_filter has_some ts z c).1))

    pub sorted : AreSortedItems es l.items.items l.names.items
    sorted = record {
      names_are = names_are ∙ sym are_names;
      counts = counts_are;
      items_are = items_are;
    }

-- ---- all of a table

pub table_sorted : (units : List UnitHeader) (es : List Entry) (listed : ListedNames) (l : ListedItems) → AreListedBy is_listed es listed → AreItemsOf (all_indexed units es) (names_of listed.names.items) l
    → AreSortedItems (all_indexed units es) l.items.items l.names.items
table_sorted units es listed l h made =
    let ts : List (List ℕ) = names_of listed.names.items in
    let long = length-map listed.names.items (λ (n : ListedName). n.name.now) in
    let rises : Rises bytes_lt ts = rises_from_pairs bytes_lt ts (λ i j d lt to.
    let first : get_or ts i d ≡ text_with ts i = get_or_default ts i d [] (omega arith) in
    let second : get_or ts j d ≡ text_with ts j = get_or_default ts j d [] to in
    rw (first, second) (lt_from_before _ _ (h.ascending i j lt to))) in
    sorted (all_indexed units es) ts l made rises (λ z has. elim (one_of ts z) [
      | inl there ↦ there
      | inr none ↦
          let nothing : places (is_listed z) es ≡ [] = h.all z (λ k lt. none k (omega (arith, lt, long))) in
          let empty : entries_named z (all_indexed units es) ≡ [] = sym (own_entries units es z [] (sym nothing)) ∙ indexed_none units in
          absurd (let size = ap (λ (w : List Indexed). length w) empty in omega (arith, size, has))
    ])

-- ---- their rows

module _ (es : List Indexed) where
  abbrev all : List Indexed
  all = flat_map (entries_of es) (names_in es)

  rows_are : rows_of all ≡ rows_of es
  rows_are = ascending_is row_lt row_order (map row_of all) (rows_of es) (ascending_rises row_lt row_order (map row_of es))
      (λ r c.
      let x = of_map row_of all r c in
      let t = of_flat_map (entries_of es) (names_in es) x.0 x.1 in
      let y = of_map nameless (entries_named t.0 es) x.0 t.2 in
      let own = of_filter (λ (e : Indexed). bytes_eq e.name t.0) es y.0 y.1 in
      let row : row_of y.0 ≡ r = ap row_of y.2 ∙ x.2 in
      ascending_has row_lt row_order (map row_of es) r (subst (Contains (map row_of es)) row (to_map row_of es y.0 own.0)))
      (λ r c.
      let y = of_map row_of es r (ascending_only row_lt row_order (map row_of es) r c) in
      let named : Contains (names_in es) y.0.name = ascending_has bytes_lt bytes_order (map (λ (e : Indexed). e.name) es) y.0.name (to_map (λ (e : Indexed). e.name) es y.0 y.1) in
      let own = to_filter (λ (e : Indexed). bytes_eq e.name y.0.name) es y.0 y.1 (eq_from_same y.0.name y.0.name refl) in
      let there = to_flat_map (entries_of es) (names_in es) y.0.name (nameless y.0) named (to_map nameless (entries_named y.0.name es) y.0 own) in
      subst (Contains (map row_of all)) y.2 (to_map row_of all (nameless y.0) there))

pub sorted_rows : (es : List Indexed) (items : List IndexEntry) (names : List ListedName) → AreSortedItems es items names → rows_of (items_seen items) ≡ rows_of es
sorted_rows es items names h = ap rows_of (h.items_are ∙ ap (flat_map (entries_of es)) h.names_are) ∙ rows_are es

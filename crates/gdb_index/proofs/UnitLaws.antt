-- The entries of a unit, item by item.
use Rattle.std.proofs.Common.{◌≡◌, ℕ, ◌+◌, ◌<◌, ◌≤◌, List, [], ◌∷◌, ◌++◌, length, drop, get_or, map, flat_map, filter, Option, Some, None, Ok, option_map, refl, sym, ap, subst, ◌∙◌, append_assoc, append-nil, drop-cons, add-one}
use Rattle.std.specs.Prelude.{Contains}
use Rattle.std.specs.List.{AllZip}
use Rattle.std.proofs.Math.ListN.{drop_of_length-le}
use Rattle.common_laws.proofs.Members.{contains_here, contains_later, of_filter}
use Rattle.common_laws.proofs.Options.{of_option_map}
use Rattle.index_model.specs.declared.entry.Entry.{Entry}
use Rattle.index_model.specs.Faults.{program_of}
use Rattle.index_model.specs.Program.{Program, Walked, Located, located}
use Rattle.index_model.proofs.Located.{of_located}
use Rattle.gdb_entries.specs.declared.language.LanguageClass.{LanguageClass}
use Rattle.gdb_entries.specs.Entries.{as_listed, entries_of_item, entries_with}
use Rattle.gdb_entries.specs.Owners.{class_read, own_class, owner_of}
use Rattle.gdb_entries.specs.Reached.{is_seen}
use Rattle.gdb_items.specs.declared.by_owner.Reading.{Reading}
use Rattle.gdb_items.specs.Readings.{reading_of}
use Rattle.gdb_scopes.specs.declared.seen.SeenItem.{SeenItem}
use Rattle.gdb_scopes.specs.Places.{seen_by, seen_of, IsSeenIn}
use Rattle.gdb_scopes.proofs.AroundLaws.{StandsIn, stands_there}
use Rattle.gdb_scopes.proofs.ScopeLaws.{told_there}
use Rattle.gdb_scopes.proofs.UnitLaws.{class_in, class_is}
use Rattle.gdb_index.specs.Items.{listed_of_item, IsLookedAt}
use Rattle.gdb_index.specs.Listed.{listed_of}
use Rattle.gdb_index.proofs.ListLaws.{map_flat_map}

-- ---- one item after the other

module _ (p : Program) (owner : Walked) (class : LanguageClass) (ds : List Located) (old : List Entry) where
  abbrev entries : List Located → List Entry
  entries es = flat_map (listed_of_item p owner class) es

  -- these items are still to come
  pub record IsListedTo (now : List Entry) (items : List SeenItem) : Type 0 where
    pub rest : List Located
    pub are : AllZip (IsLookedAt p class) items rest
    pub whole : now ++ entries rest ≡ old ++ entries ds

  pub lists_none : (items : List SeenItem) → AllZip (IsLookedAt p class) items ds → IsListedTo old items
  lists_none items are = record { rest = ds; are = are; whole = refl }

  -- the next of them
  record NextListed (now : List Entry) (i : SeenItem) (is : List SeenItem) : Type 0 where
    pub item : Located
    pub rest : List Located
    pub own : IsLookedAt p class i item
    pub are : AllZip (IsLookedAt p class) is rest
    pub whole : now ++ entries (item ∷ rest) ≡ old ++ entries ds

  next : (now : List Entry) (i : SeenItem) (is : List SeenItem) → IsListedTo now (i ∷ is) → NextListed now i is
  next now i is s = by s.rest s.are s.whole
    where
      by : (rest : List Located) → AllZip (IsLookedAt p class) (i ∷ is) rest → now ++ entries rest ≡ old ++ entries ds → NextListed now i is
      by [] are whole = absurd are
      by (d ∷ rest) are whole = record { item = d; rest = rest; own = are.0; are = are.1; whole = whole }

  -- one more of them
  pub lists_one : (now : List Entry) (items : List SeenItem) (n : ℕ) (x : SeenItem) → n < length items → IsListedTo now (drop n items) →
      (more : List Entry) → ((d : Located) → IsLookedAt p class (get_or items n x) d → more ≡ now ++ listed_of_item p owner class d) → IsListedTo more (drop (n + 1) items)
  lists_one now items n x lt s more add =
      let i : SeenItem = get_or items n x in
      let first : drop n items ≡ i ∷ drop (n + 1) items = rw add-one (drop-cons items n x lt) in
      let m = next now i (drop (n + 1) items) (subst (IsListedTo now) first s) in
      record {
        rest = m.rest;
        are = m.are;
        whole = ap (λ (es : List Entry). es ++ entries m.rest) (add m.item m.own) ∙ append_assoc now (listed_of_item p owner class m.item) (entries m.rest) ∙ m.whole;
      }

  -- behind the last
  pub lists_all : (now : List Entry) (items : List SeenItem) (n : ℕ) → length items ≤ n → IsListedTo now (drop n items) → now ≡ old ++ entries ds
  lists_all now items n le s = by s.rest (subst (λ (is : List SeenItem). AllZip (IsLookedAt p class) is s.rest) (drop_of_length-le items le) s.are) s.whole
    where
      by : (rest : List Located) → AllZip (IsLookedAt p class) [] rest → now ++ entries rest ≡ old ++ entries ds → now ≡ old ++ entries ds
      by [] are whole = sym (append-nil now) ∙ whole
      by (d ∷ rest) are whole = absurd are

-- ---- the items of a unit

module _ (f : List ℕ) (p : Program) (is : program_of f ≡ Ok p) (w : Walked) (wc : Contains p.walks w) (class : LanguageClass) (read : class_read p w ≡ Some class) where
  one_looked_at : (i : SeenItem) (d : Located) → Contains (located w) d → IsSeenIn p (Some class) i d → IsLookedAt p class i d
  one_looked_at i d dc own =
      let m = of_located w d dc in
      let stands : StandsIn w d = record { home = m.0; member = m.1 } in
      record { seen = own; there = told_there f p is d.item.at d (stands_there f p is w wc d stands) i.item own.item; class_is = ap (class_read p) m.0 ∙ read }

  all_looked_at : (items : List SeenItem) (ds : List Located) → ((d : Located) → Contains ds d → Contains (located w) d) → AllZip (IsSeenIn p (Some class)) items ds → AllZip (IsLookedAt p class) items ds
  all_looked_at [] [] within are = tt
  all_looked_at [] (d ∷ ds) within are = absurd are
  all_looked_at (i ∷ items) [] within are = absurd are
  all_looked_at (i ∷ items) (d ∷ ds) within are =
      (one_looked_at i d (within d (contains_here d ds)) are.0, all_looked_at items ds (λ e c. within e (contains_later d ds e c)) are.1)

  -- those that are seen
  pub seen_looked_at : (items : List SeenItem) → AllZip (IsSeenIn p (class_read p w)) items (seen_of p w) → AllZip (IsLookedAt p class) items (filter (is_seen p class) (located w))
  seen_looked_at items are =
      all_looked_at items (filter (is_seen p class) (located w)) (λ d c. (of_filter (is_seen p class) (located w) d c).0)
      (subst (λ (o : Option LanguageClass). AllZip (IsSeenIn p o) items (seen_by p o w)) read are)

-- ---- how the unit is read

abbrev reading_by : Program → Walked → Reading
reading_by p owner = record { owner = owner.number; class = own_class p owner }

module _ (p : Program) (w : Walked) where
  -- one that isn't read has no entries
  pub unread_lists_none : reading_of p w ≡ None → listed_of p w ≡ []
  unfolding reading_of
  unread_lists_none none = by (owner_of p w) none
    where
      by : (o : Option Walked) → option_map (reading_by p) o ≡ None → map as_listed (entries_with p o w) ≡ []
      by None k = refl
      by (Some v) k = absurd (cc)

  -- its owner
  pub record OwnerTold (r : Reading) : Type 0 where
    pub owner : Walked
    pub is : owner_of p w ≡ Some owner
    pub same : reading_by p owner ≡ r

  module _ (r : Reading) (told : reading_of p w ≡ Some r) where
    pub owner_told : OwnerTold r
    unfolding reading_of
    owner_told = let o = of_option_map (reading_by p) (owner_of p w) r told in record { owner = o.0; is = o.1; same = o.2 }

    pub number_told : r.owner ≡ owner_told.owner.number
    number_told = ap (λ (x : Reading). x.owner) (sym owner_told.same)

    -- it is read by this class
    pub class_told : class_read p w ≡ Some r.class
    class_told = sym (class_is p w) ∙ ap class_in told

    -- its entries are those of the items that are seen
    pub unit_listed : flat_map (listed_of_item p owner_told.owner r.class) (filter (is_seen p r.class) (located w)) ≡ listed_of p w
    unit_listed =
        let o = owner_told.owner in
        let class = own_class p o in
        ap (λ (x : Reading). flat_map (listed_of_item p o x.class) (filter (is_seen p x.class) (located w))) (sym owner_told.same)
        ∙ sym (map_flat_map as_listed (entries_of_item p o class) (filter (is_seen p class) (located w)))
        ∙ ap (λ (x : Option Walked). map as_listed (entries_with p x w)) (sym owner_told.is)

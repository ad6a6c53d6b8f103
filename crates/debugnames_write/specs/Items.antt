-- The entries of names, one name after the other.
use Rattle.std.specs.Prelude.{◌≡◌, ℕ, List, length, map, filter, flat_map, nat_lt, All}
use Rattle.index_model.specs.Answers.{places}
use Rattle.index_model.specs.NameIndex.{Indexed, names_in}
use Rattle.query_engine.specs.declared.listing.ListedName.{ListedName}
use Rattle.query_engine.specs.Listed.{is_listed, names_of}
use Rattle.debugnames_write.specs.declared.item.IndexEntry.{IndexEntry}
use Rattle.debugnames_write.specs.declared.listed.ListedItems.{ListedItems}
use Rattle.debugnames_write.specs.declared.part.ListedPart.{ListedPart}
use Rattle.debugnames_write.specs.declared.source.Source.{Source}
use Rattle.debugnames_write.specs.Conditions.{IsInside}
use Rattle.debugnames_write.specs.Groups.{entries_named, entries_of}
use Rattle.debugnames_write.specs.Seen.{items_seen}

-- Each name has as many places as entries are listed by it, the ascending places of one name after those of another. The entries
-- lie inside their units.
pub record ArePartOf (s : Source) (p : ListedPart) : Type 0 where
  pub inside : All (IsInside s.units.now) s.entries.now
  pub counts : All (λ n. n.count ≡ length (places (is_listed n.name.now) s.entries.now)) p.names.now
  pub are : p.places.now ≡ flat_map (λ t. places (is_listed t) s.entries.now) (names_of p.names.now)

-- a name and how many entries it has
abbrev pub Counted : Type 0
Counted = List ℕ × ℕ

-- the names with how many entries they have
abbrev pub names_counted : List ListedName → List Counted
names_counted ns = map (λ n. (n.name.now, n.count)) ns

-- how many of these entries a name has
abbrev pub counted : List Indexed → List ℕ → Counted
counted es t = (t, length (entries_named t es))

-- those that have some
abbrev pub some_counted : List Counted → List Counted
some_counted cs = filter (λ c. nat_lt 0 c.1) cs

-- of these names those that have entries, and the entries of one name after those of another
pub record AreItemsOf (es : List Indexed) (ts : List (List ℕ)) (l : ListedItems) : Type 0 where
  pub names : names_counted l.names.items ≡ some_counted (map (counted es) ts)
  pub items : items_seen l.items.items ≡ flat_map (entries_of es) ts

-- all names of these entries in byte order, and the entries of one name after those of another
pub record AreSortedItems (es : List Indexed) (items : List IndexEntry) (names : List ListedName) : Type 0 where
  pub names_are : names_of names ≡ names_in es
  pub counts : All (λ n. n.count ≡ length (entries_of es n.name.now)) names
  pub items_are : items_seen items ≡ flat_map (entries_of es) (names_of names)

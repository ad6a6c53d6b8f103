-- What contracts see of entries and of names.
use Rattle.std.specs.Prelude.{ℕ, List, [], ◌∷◌, map}
use Rattle.index_model.specs.NameIndex.{Indexed}
use Rattle.debugnames_write.specs.declared.item.IndexEntry.{IndexEntry}
use Rattle.debugnames_write.specs.declared.name.Name.{Name}

-- an entry as the definitions have it, but for its name
abbrev pub item_seen : IndexEntry → Indexed
item_seen i = record { name = []; tag = i.row.tag; types = i.row.types; unit = i.unit; offset = i.offset }

-- an entry without its name
abbrev pub nameless : Indexed → Indexed
nameless e = record { name = []; tag = e.tag; types = e.types; unit = e.unit; offset = e.offset }

-- the entries
abbrev pub items_seen : List IndexEntry → List Indexed
items_seen items = map item_seen items

-- the bucket and the hash of a name before its bytes
abbrev pub name_key : Name → List ℕ
name_key n = n.bucket ∷ n.hash ∷ n.text.now

-- the names
abbrev pub texts : List Name → List (List ℕ)
texts names = map (λ n. n.text.now) names

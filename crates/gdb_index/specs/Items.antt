-- The entries of an item as an index lists them.
use Rattle.std.specs.Prelude.{◌≡◌, ℕ, false, List, ◌++◌, map, Option, Some, flat_map, option_to_list}
use Rattle.index_model.specs.declared.entry.Entry.{Entry}
use Rattle.index_model.specs.declared.entry.Kind.{Kind}
use Rattle.index_model.specs.Program.{Program, Walked, Located}
use Rattle.gdb_entries.specs.declared.language.LanguageClass.{LanguageClass}
use Rattle.gdb_entries.specs.Entries.{as_listed, entries_of_item, text_of_index}
use Rattle.gdb_entries.specs.Kinds.{kinds_in}
use Rattle.gdb_entries.specs.Owners.{class_read}
use Rattle.gdb_names.specs.declared.both.BothNames.{BothNames}
use Rattle.gdb_names.specs.Both.{both_texts}
use Rattle.gdb_scopes.specs.declared.seen.SeenItem.{SeenItem}
use Rattle.gdb_scopes.specs.Places.{IsAt, IsSeenIn}
use Rattle.gdb_index.specs.declared.entries.ItemEntries.{ItemEntries}
use Rattle.gdb_index.specs.declared.item_names.ListedNames.{ListedNames}

-- the entries of an item that is looked at, in a unit that is read by this class and belongs to this owner
abbrev pub listed_of_item : Program → Walked → LanguageClass → Located → List Entry
listed_of_item p owner class d = map as_listed (entries_of_item p owner class d)

-- the item is this one, and stands in a unit that is read by this class
pub record IsLookedAt (p : Program) (class : LanguageClass) (s : SeenItem) (d : Located) : Type 0 where
  pub seen : IsSeenIn p (Some class) s d
  pub there : IsAt p s.item.offset d
  pub class_is : class_read p d.home ≡ Some class

-- the texts of a name, if there is one
abbrev pub texts_in : Option BothNames → List (List ℕ)
texts_in name = flat_map both_texts (option_to_list name)

-- the texts of each name
abbrev pub texts_of : ListedNames → List (List ℕ)
texts_of names = texts_in names.full ++ texts_in names.second

-- the entry of a name under a kind
abbrev pub entry_under : ItemEntries → List ℕ → Kind → Entry
entry_under common name kind = record {
  unit = common.unit;
  offset = common.offset;
  tag = common.tag;
  kind = kind;
  local = common.local;
  linkage = false;
  name = name;
  tail = 0;
}

-- those of a name, one under each kind
abbrev pub entries_under : ItemEntries → List ℕ → List Entry
entries_under common name = map (entry_under common (text_of_index name)) (kinds_in (Some common.kinds))

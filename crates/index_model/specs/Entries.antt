-- The list of entries of a file (DWARF 5, 6.1.1.1).
use Rattle.std.specs.Prelude.{ℕ, ◌-◌, Bool, true, false, not, ◌&&◌, ◌||◌, ◌==◌, if◌then◌else◌, List, [], ◌∷◌, length, drop, flat_map, bytes_eq, unwrap_or, Option, Some, None, option_map, option_to_list}
use Rattle.index_model.specs.declared.entry.Kind.TheVariants.{Other}
use Rattle.index_model.specs.declared.entry.Entry.{Entry}
use Rattle.index_model.specs.Program.{Program}
use Rattle.index_model.specs.Chains.{linkage_name_of}
use Rattle.index_model.specs.Rules.{kind_of, is_static}
use Rattle.index_model.specs.Tags.{subprogram, variable}
use Rattle.index_model.specs.Names.{simple_name}
use Rattle.index_model.specs.Links.{Link, facts_of, name_in, qualified_of, indexed_in}

-- the simple name of an entry: the last bytes of its name, as many as its tail says
abbrev pub simple_of : Entry → List ℕ
simple_of e = drop (length e.name - e.tail) e.name

-- whether the item is static
abbrev pub is_link_static : Link → Bool
is_link_static k = is_static (facts_of k)

-- the entry of an indexed item: its qualified name, of which the simple name is the end
unfoldable pub entry_of : Link → Entry
entry_of k = record {
  unit = k.entry.home.number;
  offset = k.entry.item.at;
  tag = k.entry.item.tag;
  kind = unwrap_or (kind_of k.entry.item.tag) Other;
  local = is_link_static k;
  linkage = false;
  name = unwrap_or (qualified_of k) [];
  tail = length (unwrap_or (option_map (simple_name k.class) (name_in k)) []);
}

-- a subprogram or a variable
abbrev pub may_have_linkage : ℕ → Bool
may_have_linkage tag = tag == subprogram || tag == variable

-- the linkage entry of a subprogram or variable whose linkage name isn't its qualified name; its simple name is empty
unfoldable pub linkage_entry_of : Entry → Option (List ℕ) → Option Entry
linkage_entry_of e None = None
linkage_entry_of e (Some name) =
    if may_have_linkage e.tag && not (bytes_eq name e.name) then Some (record e { linkage = true; name = name; tail = 0 }) else None

-- the entry, and at once its linkage entry
unfoldable pub entries_of_link : Program → Link → List Entry
entries_of_link p k = entry_of k ∷ option_to_list (linkage_entry_of (entry_of k) (linkage_name_of p k.chain))

-- the entries that these links give, in section order
unfoldable pub entries_of : Program → List Link → List Entry
entries_of p ks = flat_map (entries_of_link p) (indexed_in ks)

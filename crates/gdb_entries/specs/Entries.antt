-- The list of entries of a file (gdb/dwarf2/read.c, index_dies; index-write.c, write_cooked_index).
use Rattle.std.specs.Prelude.{ℕ, Bool, true, false, ◌==◌, if◌then◌else◌, List, [], ◌∷◌, ◌++◌, map, flat_map, filter, Option, Some, None, option_to_list, unwrap_or, bytes_eq}
use Rattle.ix_base.specs.Reading.{before_zero}
use Rattle.cxx_spelling.specs.declared.release.Release.{Release}
use Rattle.cxx_spelling.specs.declared.release.Release.TheVariants.{Gdb13, Gdb16}
use Rattle.index_model.specs.declared.entry.Entry.{Entry}
use Rattle.index_model.specs.declared.entry.Kind.{Kind}
use Rattle.index_model.specs.Meaning.{value_of}
use Rattle.index_model.specs.Program.{Program, Walked, Located, located}
use Rattle.index_model.specs.Faults.{program_of}
use Rattle.gdb_entries.specs.declared.language.LanguageClass.{LanguageClass}
use Rattle.gdb_entries.specs.Classes.{is_ada}
use Rattle.gdb_entries.specs.Components.{spelled}
use Rattle.gdb_entries.specs.ItemNames.{SecondName, OnlyName, Linkage, item_names}
use Rattle.gdb_entries.specs.Kinds.{kinds_of, kinds_in}
use Rattle.gdb_entries.specs.Rules.{is_static, entry_point}
use Rattle.gdb_entries.specs.Owners.{owner_of, own_class}
use Rattle.gdb_entries.specs.Chains.{facts_of, name_of, linkage_of, is_external}
use Rattle.gdb_entries.specs.Reached.{is_seen}
use Rattle.gdb_entries.specs.Scopes.{around_by}
use Rattle.ada_spelling.specs.AdaNames.{encoded}
use Rattle.gdb_entries.specs.Names.{ada_name, full_name}

-- whether the names of an item are static by its own chain
abbrev pub is_static_itself : Program → LanguageClass → Located → Bool
is_static_itself p class d = is_static class d.item.tag (is_external p d)

-- whether those of what is around an entry point are
abbrev pub is_static_around : Program → LanguageClass → Option Located → Bool
is_static_around p class (Some e) = is_static_itself p class e
is_static_around p class None = false

-- whether the names of an item are static; an entry point is as its subprogram
unfoldable pub is_item_static : Program → LanguageClass → Located → Bool
is_item_static p class d =
    if d.item.tag == entry_point then is_static_around p class (around_by p (Some class) d) else is_static_itself p class d

-- an entry of an item that this unit has, under this name; it has no simple name
abbrev pub entry_as : Walked → Located → Bool → Bool → List ℕ → Kind → Entry
entry_as owner d static linkage name kind = record {
  unit = owner.number;
  offset = d.item.at;
  tag = d.item.tag;
  kind = kind;
  local = static;
  linkage = linkage;
  name = name;
  tail = 0;
}

-- A name as gdb 13 and gdb 16 spell it, once where both do it alike: an index serves either.
abbrev pub by_both : (Release → List ℕ) → List (List ℕ)
by_both name = if bytes_eq (name Gdb13) (name Gdb16) then name Gdb13 ∷ [] else name Gdb13 ∷ name Gdb16 ∷ []

-- a linkage name that is taken for a name: no scope stands before it
abbrev pub only_name : Release → LanguageClass → List ℕ → List ℕ
only_name release class name = if is_ada class then ada_name (name ∷ []) else spelled release class name

-- a second name as it is listed: an only name is spelled as names are, a linkage name isn't
abbrev pub second_texts : LanguageClass → SecondName → List (List ℕ)
second_texts class (OnlyName name) = by_both (λ release. only_name release class name)
second_texts class (Linkage name) = (if is_ada class then encoded name else name) ∷ []

-- whether it is that of a linkage entry
abbrev pub is_linkage : SecondName → Bool
is_linkage (OnlyName name) = false
is_linkage (Linkage name) = true

-- the full names of an item, if it has a name
abbrev pub full_texts : Program → LanguageClass → Located → Option (List ℕ) → List (List ℕ)
full_texts p class d name = flat_map (λ n. by_both (λ release. full_name release p class d n)) (option_to_list name)

-- the names of an item that is looked at, each with whether it is that of a linkage entry
unfoldable pub names_of : Program → LanguageClass → Located → List (Bool × List ℕ)
names_of p class d =
    let names = item_names class (facts_of d.item) (name_of p class d) (linkage_of p d) in
    map (λ text. (false, text)) (full_texts p class d names.name)
    ++ flat_map (λ second. map (λ text. (is_linkage second, text)) (second_texts class second)) (option_to_list names.second)

-- the entries of an item that is looked at: each name under each kind of its tag
unfoldable pub entries_of_item : Program → Walked → LanguageClass → Located → List Entry
entries_of_item p owner class d =
    let static = is_item_static p class d in
    flat_map (λ n. map (entry_as owner d static n.0 n.1) (kinds_in (kinds_of d.item.tag))) (names_of p class d)

-- the entries of a unit with this owner, in the order of its items
abbrev pub entries_with : Program → Option Walked → Walked → List Entry
entries_with p (Some owner) w =
    let class = own_class p owner in
    flat_map (entries_of_item p owner class) (filter (is_seen p class) (located w))
entries_with p None w = []

-- the entries of a program, in section order
unfoldable pub entries_of : Program → List Entry
entries_of p = flat_map (λ w. entries_with p (owner_of p w) w) p.walks

-- those of a file whose units can be read
abbrev pub entries_in : Option Program → List Entry
entries_in (Some p) = entries_of p
entries_in None = []

-- the entries that gdb gives a file
unfoldable pub gdb_entries : List ℕ → List Entry
gdb_entries file = entries_in (value_of (program_of file))

-- a name as an index has it: a text of an index ends at its first zero byte (GDB manual, index section format)
abbrev pub text_of_index : List ℕ → List ℕ
text_of_index name = unwrap_or (before_zero name) name

-- an entry as an index lists it: a linkage entry stands there as others do
abbrev pub as_listed : Entry → Entry
as_listed e = record e { linkage = false; name = text_of_index e.name }

-- the entries as an index lists them
abbrev pub listed : Program → List Entry
listed p = map as_listed (entries_of p)

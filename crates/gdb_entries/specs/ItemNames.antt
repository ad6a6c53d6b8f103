-- The names that an item is listed under (gdb/dwarf2/read.c, index_dies; index-write.c, write_cooked_index).
use Rattle.std.specs.Prelude.{ℕ, Bool, not, ◌&&◌, if◌then◌else◌, List, [], ◌∷◌, is_some, Option, Some, None}
use Rattle.std.specs.Option.{option_or}
use Rattle.index_model.specs.Tags.{is_one_of}
use Rattle.gdb_entries.specs.declared.language.LanguageClass.{LanguageClass}
use Rattle.gdb_entries.specs.declared.item.ItemFacts.{ItemFacts}
use Rattle.gdb_entries.specs.Classes.{is_ada, is_cxx}
use Rattle.gdb_entries.specs.Rules.{gives_scope_alone}

-- a linkage name that is listed: the only name of a function, or that of a linkage entry
pub data SecondName : Type 0 where
  OnlyName Linkage : List ℕ → SecondName

-- the names of an item as the file has them: the one that stands behind its scope, and the one that stands without
pub record ItemNames : Type 0 where
  pub name : Option (List ℕ)
  pub second : Option SecondName

-- subprogram, inlined subroutine and entry point are listed by a linkage name where they have no other
abbrev pub is_called : ℕ → Bool
is_called = is_one_of (0x2E ∷ 0x1D ∷ 0x03 ∷ [])

-- the linkage name of an item with this name; in Ada the name is one where there is no other
abbrev pub linkage_name : LanguageClass → Option (List ℕ) → Option (List ℕ) → Option (List ℕ)
linkage_name class name linkage = option_or linkage (if is_ada class then name else None)

-- the second name of an item with this tag, name and linkage name
abbrev pub second_name : LanguageClass → ℕ → Option (List ℕ) → Option (List ℕ) → Option SecondName
second_name class tag name None = None
second_name class tag name (Some linkage) =
    if not (is_some name) && is_called tag then Some (OnlyName linkage) else
    if is_cxx class then None else Some (Linkage linkage)

-- the names of an item that is looked at, by what it says of itself, its name and its linkage name
abbrev pub item_names : LanguageClass → ItemFacts → Option (List ℕ) → Option (List ℕ) → ItemNames
item_names class d name linkage =
    if gives_scope_alone d && not (is_ada class) then record { name = None; second = None } else
    record { name = name; second = second_name class d.tag name (linkage_name class name linkage) }

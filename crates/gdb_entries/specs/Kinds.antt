-- The tags that gdb lists, and the kinds of their names (gdb/dwarf2/abbrev.c, tag_interesting_for_index; index-write.c, write_cooked_index).
use Rattle.std.specs.Prelude.{ℕ, if◌then◌else◌, List, [], ◌∷◌, Option, Some, None}
use Rattle.index_model.specs.declared.entry.Kind.{Kind}
use Rattle.index_model.specs.declared.entry.Kind.TheVariants.{TypeName, Variable, Function, Other}
use Rattle.index_model.specs.Tags.{is_one_of}
use Rattle.gdb_entries.specs.declared.kinds.Kinds.{Kinds}
use Rattle.gdb_entries.specs.declared.kinds.Kinds.TheVariants.{One, TypeAndOther}

-- the kinds of the names of items with this tag, where gdb lists them
unfoldable pub kinds_of : ℕ → Option Kinds
kinds_of tag =
    if is_one_of (0x01 ∷ 0x02 ∷ 0x04 ∷ 0x12 ∷ 0x13 ∷ 0x15 ∷ 0x16 ∷ 0x17 ∷ 0x1F ∷ 0x20 ∷ 0x21 ∷ 0x24 ∷ 0x38 ∷ 0x39 ∷ 0x3B ∷ []) tag then Some (One TypeName) else
    if is_one_of (0x27 ∷ 0x28 ∷ 0x34 ∷ []) tag then Some (One Variable) else
    if is_one_of (0x03 ∷ 0x2E ∷ []) tag then Some (One Function) else
    if is_one_of (0x1E ∷ []) tag then Some (One Other) else
    if is_one_of (0x08 ∷ 0x1D ∷ 0x45 ∷ []) tag then Some TypeAndOther else None

-- the kinds one by one
abbrev pub kinds_in : Option Kinds → List Kind
kinds_in (Some (One kind)) = kind ∷ []
kinds_in (Some TypeAndOther) = TypeName ∷ Other ∷ []
kinds_in None = []

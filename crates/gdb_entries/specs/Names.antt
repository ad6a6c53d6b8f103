-- Full names (gdb/dwarf2/cooked-index.c, full_name, write_scope; index-write.c, write_cooked_index).
use Rattle.std.specs.Prelude.{ℕ, if◌then◌else◌, List, [], ◌∷◌, reverse, filter_map, codes, is_some, unwrap_or, Option, option_and_then}
use Rattle.std.specs.List.{join_by}
use Rattle.cxx_spelling.specs.declared.release.Release.{Release}
use Rattle.index_model.specs.Program.{Program, Located}
use Rattle.gdb_entries.specs.declared.language.LanguageClass.{LanguageClass}
use Rattle.gdb_entries.specs.Classes.{is_ada}
use Rattle.gdb_entries.specs.Components.{spelled, component_of, behind_scope}
use Rattle.gdb_entries.specs.Owners.{class_read}
use Rattle.gdb_entries.specs.Chains.{name_of, is_scoped}
use Rattle.gdb_entries.specs.Scopes.{scope_path}
use Rattle.ada_spelling.specs.AdaNames.{decoded, encoded}

-- the component that a member of a path gives, by the class by which its own unit is read
unfoldable pub component : Release → Program → Located → Option (List ℕ)
component release p e = option_and_then (λ class. component_of release class e.item.tag (is_scoped p e) (name_of p class e)) (class_read p e.home)

-- ---- Ada

-- A name that is decoded has its scope in itself. What isn't stands behind what is around it, up to the first that is decoded.
unfoldable pub ada_pieces : List (List ℕ) → List (List ℕ)
ada_pieces [] = []
ada_pieces (name ∷ outer) =
    let more = ada_pieces outer in
    let whole = decoded name in
    if is_some whole then unwrap_or whole [] ∷ [] else name ∷ more

-- the name of Ada, where these are the components from the innermost outwards
abbrev pub ada_name : List (List ℕ) → List ℕ
ada_name names = encoded (join_by (λ piece. piece) (codes ".") (reverse (ada_pieces names)))

-- ---- full names

-- the full name of an item with this name that is read by this class, by the spelling of one release throughout
unfoldable pub full_name : Release → Program → LanguageClass → Located → List ℕ → List ℕ
full_name release p class d name =
    let components = filter_map (component release p) (scope_path p d) in
    if is_ada class then ada_name (name ∷ components) else behind_scope class (reverse components) (spelled release class name)

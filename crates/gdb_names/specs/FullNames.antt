-- Full names by the components of their scopes (gdb/dwarf2/cooked-index.c, full_name, write_scope; index-write.c, write_cooked_index).
use Rattle.std.specs.Prelude.{ℕ, if◌then◌else◌, List, ◌∷◌, reverse}
use Rattle.cxx_spelling.specs.declared.release.Release.{Release}
use Rattle.gdb_entries.specs.declared.language.LanguageClass.{LanguageClass}
use Rattle.gdb_entries.specs.Classes.{is_ada}
use Rattle.gdb_entries.specs.Components.{spelled, behind_scope}
use Rattle.gdb_entries.specs.Names.{ada_name}

-- the full name by the spelling of a release, where these are the components from the outermost inwards
abbrev pub name_behind : Release → LanguageClass → List (List ℕ) → List ℕ → List ℕ
name_behind release class components name =
    if is_ada class then ada_name (name ∷ reverse components) else behind_scope class components (spelled release class name)

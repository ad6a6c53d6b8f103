-- Names spelled, and behind the components of their scopes, by the classes of languages (gdb/dwarf2/cooked-index.c, finalize, full_name, write_scope).
use Rattle.std.specs.Prelude.{ℕ, Bool, not, ◌&&◌, ◌==◌, if◌then◌else◌, List, [], ◌∷◌, ◌++◌, Option, Some, None, option_map}
use Rattle.std.specs.List.{join_by}
use Rattle.cxx_spelling.specs.declared.release.Release.{Release}
use Rattle.cxx_spelling.specs.Spelling.{gdb_spelling, gdb_c_spelling}
use Rattle.index_model.specs.Tags.{enumeration}
use Rattle.gdb_entries.specs.declared.language.LanguageClass.{LanguageClass}
use Rattle.gdb_entries.specs.declared.language.LanguageClass.TheVariants.{C, Cxx}
use Rattle.gdb_entries.specs.declared.separator.Separator.{Separator}
use Rattle.gdb_entries.specs.Classes.{separator_of, separator_text}

-- a name as a release of gdb spells it in a unit that is read by this class: those of C and C++ anew, others as they stand
abbrev pub spelled : Release → LanguageClass → List ℕ → List ℕ
spelled release C name = gdb_c_spelling release name
spelled release Cxx name = gdb_spelling release name
spelled release _ name = name

-- whether a member of a path gives a component where it has a name; the enumerators of an enumeration that isn't scoped take its scope
abbrev pub gives_component : ℕ → Bool → Bool
gives_component tag scoped = not (tag == enumeration && not scoped)

-- the component that a member of a path gives, where its own unit is read by this class
abbrev pub component_of : Release → LanguageClass → ℕ → Bool → Option (List ℕ) → Option (List ℕ)
component_of release class tag scoped name = if gives_component tag scoped then option_map (spelled release class) name else None

-- the components from the outermost inwards, joined; without separator the last alone
abbrev pub joined : Option Separator → List (List ℕ) → List ℕ → List ℕ
joined (Some s) names name = join_by (λ piece. piece) (separator_text s) names
joined None names name = name

-- a name behind the components of its scope, these from the outermost inwards, in a unit that is read by this class
abbrev pub behind_scope : LanguageClass → List (List ℕ) → List ℕ → List ℕ
behind_scope class components name = joined (separator_of class) (components ++ name ∷ []) name

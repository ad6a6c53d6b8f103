-- What stands before the names of items.
use Rattle.std.specs.Prelude.{◌≡◌, ℕ, List, [], nat_eq, filter_map, reverse, Option, Some, None, option_map}
use Rattle.std.specs.Arc.{arc_value}
use Rattle.std.specs.declared.sync.Arc.{Arc}
use Rattle.indexmap.specs.IndexMap.{IndexMap, get}
use Rattle.cxx_spelling.specs.declared.release.Release.{Release}
use Rattle.index_model.specs.Program.{Program, Located}
use Rattle.gdb_entries.specs.Components.{behind_scope}
use Rattle.gdb_entries.specs.declared.language.LanguageClass.{LanguageClass}
use Rattle.gdb_entries.specs.Files.{ForProgram}
use Rattle.gdb_entries.specs.Names.{component}
use Rattle.gdb_entries.specs.Scopes.{scope_of, scope_path}
use Rattle.gdb_names.specs.declared.fronts.BothFronts.{BothFronts}
use Rattle.gdb_names.specs.Fronts.{front_by}
use Rattle.gdb_scopes.specs.Places.{offset_of, IsAt}
use Rattle.gdb_index.specs.declared.front.Front.{Front}

-- what stands before the name of an item in a unit of this class, as a release spells it
abbrev pub front_at : Release → Program → LanguageClass → Located → List ℕ
front_at release p class d = behind_scope class (reverse (filter_map (component release p) (scope_path p d))) []

-- what is told to stand there, where something does
abbrev pub front_text : {A : Type 0} → Release → Option (Arc BothFronts A) → List ℕ
front_text release None = []
front_text release (Some front) = front_by release (arc_value front)

-- it stands before the name of each item whose scope is at this joint offset
abbrev pub IsFrontAt : List ℕ → ℕ → LanguageClass → BothFronts → Type 0
IsFrontAt file scope class front =
    ForProgram file (λ p. (o : ℕ) (d : Located) → IsAt p o d → Some scope ≡ option_map offset_of (scope_of p d) → (release : Release) → front_by release front ≡ front_at release p class d)

-- what is kept of each scope stands there
abbrev pub AllAreFronts : {S : Type 0} → List ℕ → IndexMap ℕ Front S → Type 0
AllAreFronts file known = (scope : ℕ) (front : Front) → get nat_eq known scope ≡ Some front → IsFrontAt file scope front.class (arc_value front.texts)

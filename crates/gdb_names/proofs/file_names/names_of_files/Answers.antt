use Rattle.std.proofs.Common.{ℕ, List, ◌∷◌, reverse, filter_map, refl, sym, ap}
use Rattle.std.specs.Prelude.{if◌then◌else◌, option_and_then}
use Rattle.std.proofs.lemmas.List.{reverse-reverse}
use Rattle.gdb_entries.specs.declared.language.LanguageClass.{LanguageClass}
use Rattle.gdb_entries.specs.Classes.{is_ada, separator_of}
use Rattle.gdb_entries.specs.Components.{spelled, component_of, behind_scope}
use Rattle.gdb_entries.specs.Chains.{name_of, is_scoped}
use Rattle.gdb_entries.specs.Scopes.{scope_path}
use Rattle.gdb_entries.specs.Names.{component, full_name, ada_name}
use Rattle.gdb_entries.specs.Entries.{names_of}
use Rattle.gdb_names.proofs.JoinLaws.{front}
use Rattle.gdb_names.proofs.file_names.names_of_files.Goals as goal

pub returns-clause-components : goal.returns-clause-components
unfolding component
returns-clause-components c release p class e h = ap (option_and_then (λ (by : LanguageClass). component_of release by e.item.tag (is_scoped p e) (name_of p by e))) h

pub returns-clause-full : goal.returns-clause-full
unfolding full_name
returns-clause-full c release p class d name =
    let components = filter_map (component release p) (scope_path p d) in
    let others = behind_scope class (reverse components) (spelled release class name) in
    ap (λ (names : List (List ℕ)). if is_ada class then ada_name (name ∷ names) else others) (sym (reverse-reverse components))

pub returns-clause-fronts : goal.returns-clause-fronts
returns-clause-fronts c class components name = front (separator_of class) components name

pub returns-clause-listed : goal.returns-clause-listed
unfolding names_of
returns-clause-listed c p class d = refl

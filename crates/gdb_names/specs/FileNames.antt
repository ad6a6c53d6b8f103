-- How the names of a file's items are made of what this crate gives.
use Rattle.std.specs.Prelude.{◌≡◌, ℕ, false, List, [], ◌++◌, map, flat_map, reverse, filter_map, option_to_list, Some}
use Rattle.cxx_spelling.specs.declared.release.Release.{Release}
use Rattle.index_model.specs.Program.{Program, Located}
use Rattle.gdb_entries.specs.declared.language.LanguageClass.{LanguageClass}
use Rattle.gdb_entries.specs.Components.{component_of, behind_scope}
use Rattle.gdb_entries.specs.ItemNames.{ItemNames, item_names}
use Rattle.gdb_entries.specs.Owners.{class_read}
use Rattle.gdb_entries.specs.Chains.{facts_of, name_of, linkage_of, is_scoped}
use Rattle.gdb_entries.specs.Scopes.{scope_path}
use Rattle.gdb_entries.specs.Names.{component, full_name}
use Rattle.gdb_entries.specs.Entries.{full_texts, second_texts, is_linkage, names_of}
use Rattle.gdb_names.specs.FullNames.{name_behind}

-- a member of a path gives the component that its own unit's class says, as each release spells it
abbrev pub ComponentsAreOfTheirUnits : Type 0
ComponentsAreOfTheirUnits =
    (release : Release) (p : Program) (class : LanguageClass) (e : Located) → class_read p e.home ≡ Some class →
    component release p e ≡ component_of release class e.item.tag (is_scoped p e) (name_of p class e)

-- the full name of an item by a release is its name behind the components of its path, all as this release spells them
abbrev pub FullNamesStandBehindPaths : Type 0
FullNamesStandBehindPaths =
    (release : Release) (p : Program) (class : LanguageClass) (d : Located) (name : List ℕ) →
    full_name release p class d name ≡ name_behind release class (reverse (filter_map (component release p) (scope_path p d))) name

-- What a scope puts before a name is the same for each name there, but in Ada: it can be formed once, of an empty name.
abbrev pub FrontsStandBeforeNames : Type 0
FrontsStandBeforeNames =
    (class : LanguageClass) (components : List (List ℕ)) (name : List ℕ) → behind_scope class components name ≡ behind_scope class components [] ++ name

-- the names that an item has
abbrev pub names_in : Program → LanguageClass → Located → ItemNames
names_in p class d = item_names class (facts_of d.item) (name_of p class d) (linkage_of p d)

-- it is listed by its full names, and by its second ones
abbrev pub ItemsAreListedByBoth : Type 0
ItemsAreListedByBoth =
    (p : Program) (class : LanguageClass) (d : Located) →
    names_of p class d
    ≡ map (λ text. (false, text)) (full_texts p class d (names_in p class d).name)
    ++ flat_map (λ second. map (λ text. (is_linkage second, text)) (second_texts class second)) (option_to_list (names_in p class d).second)

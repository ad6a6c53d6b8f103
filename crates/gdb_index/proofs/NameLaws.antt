-- Names behind their scope paths.
use Rattle.std.proofs.Common.{◌≡◌, ℕ, Bool, true, false, cond, List, [], ◌∷◌, ◌++◌, filter_map, map, reverse, Option, Some, None, option_map, refl, sym, ap, ◌∙◌}
use mathlib.Core.Bool.{◌||◌}
use Rattle.std.specs.Prelude.{is_some}
use Rattle.std.specs.List.{list_any}
use Rattle.std.proofs.lemmas.List.{reverse-reverse}
use Rattle.std.specs.Borrow.{Bor}
use Rattle.indexmap.proofs.ReorderLemmas.{map-reverse}
use Rattle.cxx_spelling.specs.declared.release.Release.{Release}
use Rattle.cxx_spelling.specs.declared.release.Release.TheVariants.{Gdb13, Gdb16}
use Rattle.index_model.specs.Program.{Program, Located}
use Rattle.gdb_entries.specs.declared.language.LanguageClass.{LanguageClass}
use Rattle.gdb_entries.specs.declared.language.LanguageClass.TheVariants.{C, Cxx, Ada, Rust, D, Go, Fortran, Other}
use Rattle.gdb_entries.specs.declared.separator.Separator.{Separator}
use Rattle.gdb_entries.specs.Classes.{is_ada, separator_of}
use Rattle.gdb_entries.specs.Components.{spelled, behind_scope, joined}
use Rattle.gdb_entries.specs.Names.{ada_name, component, full_name}
use Rattle.gdb_entries.specs.Scopes.{scope_path}
use Rattle.gdb_names.proofs.JoinLaws.{front}
use Rattle.gdb_names.specs.FullNames.{name_behind}
use Rattle.gdb_names.specs.Seen.{contents}
use Rattle.gdb_index.specs.declared.both_texts.BothTexts.{BothTexts}
use Rattle.gdb_index.specs.declared.text.ComponentText.{ComponentText}
use Rattle.gdb_index.specs.Fronts.{front_at}
use Rattle.gdb_index.specs.Texts.{newer_or, text_by, text_bytes}

-- of names that are turned round the bytes are
pub turned_contents : (names : List (Bor (List ℕ))) → contents (reverse names) ≡ reverse (contents names)
turned_contents names = map-reverse (λ (name : Bor (List ℕ)). name.now) names

-- no class but Ada's is
pub not_ada : (class : LanguageClass) → (class ≡ Ada → ⊥) → is_ada class ≡ false
not_ada C other = refl
not_ada Cxx other = refl
not_ada Ada other = absurd (other refl)
not_ada Rust other = refl
not_ada D other = refl
not_ada Go other = refl
not_ada Fortran other = refl
not_ada Other other = refl

-- a full name is the name behind the components of the path
pub stands_behind : (release : Release) (p : Program) (class : LanguageClass) (d : Located) (name : List ℕ) →
    name_behind release class (reverse (filter_map (component release p) (scope_path p d))) name ≡ full_name release p class d name
unfolding full_name
stands_behind release p class d name =
    let names = filter_map (component release p) (scope_path p d) in
    let others = behind_scope class (reverse names) (spelled release class name) in
    ap (λ (ns : List (List ℕ)). cond (is_ada class) (ada_name (name ∷ ns)) others) (reverse-reverse names)

-- of Ada it is decoded
pub full_of_ada : (release : Release) (p : Program) (class : LanguageClass) (d : Located) (name : List ℕ) → is_ada class ≡ true →
    ada_name (name ∷ reverse (reverse (filter_map (component release p) (scope_path p d)))) ≡ full_name release p class d name
full_of_ada release p class d name ada =
    let names = reverse (filter_map (component release p) (scope_path p d)) in
    sym (ap (λ (b : Bool). cond b (ada_name (name ∷ reverse names)) (behind_scope class names (spelled release class name))) ada) ∙ stands_behind release p class d name

-- else it stands behind what its scope puts before each name
pub full_of_front : (release : Release) (p : Program) (class : LanguageClass) (d : Located) (name : List ℕ) → is_ada class ≡ false →
    front_at release p class d ++ spelled release class name ≡ full_name release p class d name
full_of_front release p class d name other =
    let names = reverse (filter_map (component release p) (scope_path p d)) in
    let whole = behind_scope class names (spelled release class name) in
    sym (front (separator_of class) names (spelled release class name))
    ∙ sym (ap (λ (b : Bool). cond b (ada_name (name ∷ reverse names)) whole) other)
    ∙ stands_behind release p class d name

-- without components nothing stands before a name
nothing_joined : (s : Option Separator) → [] ≡ joined s ([] ∷ []) []
nothing_joined None = refl
nothing_joined (Some s) = refl

pub no_front : (release : Release) (p : Program) (class : LanguageClass) (d : Located) → filter_map (component release p) (scope_path p d) ≡ [] → [] ≡ front_at release p class d
no_front release p class d none = nothing_joined (separator_of class) ∙ sym (ap (λ (names : List (List ℕ)). behind_scope class (reverse names) []) none)

-- without a separator neither
pub no_separator : (release : Release) (p : Program) (class : LanguageClass) (d : Located) → separator_of class ≡ None → [] ≡ front_at release p class d
no_separator release p class d none =
    let names = reverse (filter_map (component release p) (scope_path p d)) in
    sym (ap (λ (o : Option Separator). joined o (names ++ [] ∷ []) []) none)

-- ---- both releases

-- where no text is another by gdb 16, all are those of gdb 13
pub none_differ : (texts : List BothTexts) → list_any (λ (t : BothTexts). is_some t.newer) texts ≡ false → map (text_by Gdb13) texts ≡ map (text_by Gdb16) texts
none_differ [] none = refl
none_differ (t ∷ ts) none = by t.newer refl (λ rest. none_differ ts rest) none
  where
    by : (o : Option ComponentText) → t.newer ≡ o → (list_any (λ (t : BothTexts). is_some t.newer) ts ≡ false → map (text_by Gdb13) ts ≡ map (text_by Gdb16) ts) → (is_some o || list_any (λ (t : BothTexts). is_some t.newer) ts) ≡ false → map (text_by Gdb13) (t ∷ ts) ≡ map (text_by Gdb16) (t ∷ ts)
    by None is more rest =
        ap (λ (texts : List (List ℕ)). text_bytes t.older ∷ texts) (more rest)
        ∙ ap (λ (o : Option ComponentText). newer_or o (text_bytes t.older) ∷ map (text_by Gdb16) ts) (sym is)
    by (Some text) is more rest = absurd (cc)

-- what holds for both releases holds for each
pub for_each : (f g : Release → List (List ℕ)) → f Gdb13 ≡ g Gdb13 → f Gdb16 ≡ g Gdb16 → (release : Release) → f release ≡ g release
for_each f g older newer Gdb13 = older
for_each f g older newer Gdb16 = newer

-- one function behind another, over what may be there
pub behind_another : {A B C : Type 0} (o : Option A) (f : A → B) (g : B → C) → option_map (λ a. g (f a)) o ≡ option_map g (option_map f o)
behind_another None f g = refl
behind_another (Some a) f g = refl

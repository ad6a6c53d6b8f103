-- What a member of a path gives, by what is told of it, and what is kept of it.
use Rattle.std.proofs.Common.{◌≡◌, ℕ, Bool, true, false, cond, eqb, List, Option, Some, None, option_map, refl, sym, ap, ◌∙◌}
use Rattle.std.specs.Prelude.{nat_eq, option_and_then, is_some, ◌&&◌, bytes_eq, codes}
use Rattle.std.specs.Map.{lookup}
use Rattle.indexmap.specs.IndexMap.{IndexMap}
use Rattle.cxx_spelling.specs.declared.release.Release.{Release}
use Rattle.index_model.specs.Program.{Program, Located}
use Rattle.gdb_entries.specs.declared.language.LanguageClass.{LanguageClass}
use Rattle.index_model.specs.Sections.{Section}
use Rattle.index_model.specs.Tags.{namespace}
use Rattle.gdb_entries.specs.Chains.{first_name, name_of, namespace_name, is_scoped}
use Rattle.gdb_entries.specs.Classes.{is_cxx}
use Rattle.gdb_entries.specs.Components.{component_of, gives_component, spelled}
use Rattle.gdb_entries.specs.Names.{component}
use Rattle.gdb_entries.specs.Owners.{class_read}
use Rattle.gdb_items.specs.Chains.{StandsAt}
use Rattle.gdb_index.specs.declared.step.Step.{Step}
use Rattle.gdb_index.specs.Steps.{AllAreSteps, IsSameStep, IsStepAt}

-- ---- the component of a member

module _ (p : Program) (d : Located) where
  abbrev pub by_class : Release → LanguageClass → Option (List ℕ)
  by_class release class = component_of release class d.item.tag (is_scoped p d) (name_of p class d)

  -- one whose unit isn't read gives none
  pub unread_gives_none : (release : Release) → class_read p d.home ≡ None → None ≡ component release p d
  unfolding component
  unread_gives_none release unread = sym (ap (λ (o : Option LanguageClass). option_and_then (by_class release) o) unread)

  -- others give what the class of their unit says
  pub read_gives : (release : Release) (class : LanguageClass) → class_read p d.home ≡ Some class → by_class release class ≡ component release p d
  unfolding component
  read_gives release class read = sym (ap (λ (o : Option LanguageClass). option_and_then (by_class release) o) read)

  -- by what is told of it and its chain
  pub told_gives : (release : Release) (class : LanguageClass) (tag : ℕ) (scoped : Bool) (name : Option (List ℕ)) →
      tag ≡ d.item.tag → scoped ≡ is_scoped p d → name ≡ name_of p class d → component_of release class tag scoped name ≡ by_class release class
  told_gives release class tag scoped name at is called =
      ap (λ (t : ℕ). component_of release class t scoped name) at
      ∙ ap (λ (s : Bool). component_of release class d.item.tag s name) is
      ∙ ap (λ (n : Option (List ℕ)). component_of release class d.item.tag (is_scoped p d) n) called

-- one that gives none by its tag
pub gives_not : (release : Release) (class : LanguageClass) (tag : ℕ) (scoped : Bool) (name : Option (List ℕ)) → gives_component tag scoped ≡ false → None ≡ component_of release class tag scoped name
gives_not release class tag scoped name off = sym (ap (λ (b : Bool). cond b (option_map (spelled release class) name) None) off)

-- one without a name
pub gives_nameless : (release : Release) (class : LanguageClass) (tag : ℕ) (scoped : Bool) → None ≡ component_of release class tag scoped None
gives_nameless release class tag scoped = by (gives_component tag scoped)
  where
    by : (b : Bool) → None ≡ cond b (option_map (spelled release class) None) None
    by true = refl
    by false = refl

-- one that gives its name, spelled
pub gives_one : (release : Release) (class : LanguageClass) (tag : ℕ) (scoped : Bool) (name text : List ℕ) → gives_component tag scoped ≡ true → text ≡ spelled release class name →
    Some text ≡ component_of release class tag scoped (Some name)
gives_one release class tag scoped name text on is = ap Some is ∙ sym (ap (λ (b : Bool). cond b (Some (spelled release class name)) None) on)

-- ---- where a name stands

-- the name of an item that is the first on its chain stands where that stands
pub stands_too : (ss : List Section) (p : Program) (class : LanguageClass) (d : Located) (place : Option ℕ) → StandsAt ss place (first_name p d) → (n : List ℕ) → name_of p class d ≡ Some n → StandsAt ss place (Some n)
unfolding name_of
stands_too ss p class d None stands n is = tt
stands_too ss p class d (Some at) stands n is = (refl, stands.1 ∙ named (first_name p d) stands.0 is)
  where
    other : (m : List ℕ) (b : Bool) → cond b None (Some m) ≡ Some n → Some m ≡ Some n
    other m true e = absurd cc
    other m false e = e

    by : (m : List ℕ) (b : Bool) → cond b (namespace_name class (Some m)) (Some m) ≡ Some n → Some m ≡ Some n
    by m true e = other m (is_cxx class && bytes_eq m (codes "::")) e
    by m false e = e

    named : (o : Option (List ℕ)) → is_some o ≡ true → cond (eqb d.item.tag namespace) (namespace_name class o) o ≡ Some n → o ≡ Some n
    named None some e = absurd cc
    named (Some m) some e = by m (eqb d.item.tag namespace) e

-- ---- steps that are kept

-- a step that is held once more is the same item's
pub same_step : (f : List ℕ) (o : ℕ) (one other : Step) → IsSameStep one other → IsStepAt f o one → IsStepAt f o other
same_step f o one other same h p is d here = let own = h p is d here in record { component = λ release. same.component release ∙ own.component release; scope = same.scope ∙ own.scope }

-- where nothing is put in, all are still so
pub kept_still : {S : Type 0} (f : List ℕ) (old new : IndexMap ℕ Step S) → AllAreSteps f old → new.entries ≡ old.entries → AllAreSteps f new
kept_still f old new all same offset step e = all offset step (ap (λ (es : List (ℕ × Step)). lookup (nat_eq offset) es) (sym same) ∙ e)

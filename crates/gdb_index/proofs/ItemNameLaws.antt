-- The names of an item, by what is told of it.
use Rattle.std.proofs.Common.{◌≡◌, ℕ, Bool, true, false, cond, List, [], ◌∷◌, ◌++◌, map, flat_map, Option, Some, None, refl, sym, ap, ◌∙◌}
use Rattle.std.proofs.lemmas.List.{map-append}
use Rattle.std.specs.Prelude.{option_to_list, not, ◌&&◌, IfSome}
use Rattle.index_model.specs.Sections.{Section}
use Rattle.index_model.specs.Program.{Program, Located}
use Rattle.gdb_entries.specs.declared.item.ItemFacts.{ItemFacts}
use Rattle.gdb_entries.specs.declared.language.LanguageClass.{LanguageClass}
use Rattle.gdb_entries.specs.Chains.{facts_of, first_name, linkage_of, name_of}
use Rattle.gdb_entries.specs.Classes.{is_ada}
use Rattle.gdb_entries.specs.Entries.{full_texts, is_linkage, names_of, second_texts}
use Rattle.gdb_entries.specs.ItemNames.{ItemNames, SecondName, item_names}
use Rattle.gdb_entries.specs.Rules.{gives_scope_alone}
use Rattle.gdb_items.specs.Chains.{StandsAt}
use Rattle.gdb_index.proofs.StepLaws.{stands_too}

module _ (p : Program) (class : LanguageClass) (d : Located) where
  -- the texts of a second name, with what they are
  abbrev second_named : SecondName → List (Bool × List ℕ)
  second_named second = map (λ (text : List ℕ). (is_linkage second, text)) (second_texts class second)

  bare : (b : Bool) (texts : List (List ℕ)) → texts ≡ map (λ (n : Bool × List ℕ). n.1) (map (λ (text : List ℕ). (b, text)) texts)
  bare b [] = refl
  bare b (t ∷ ts) = ap (λ (more : List (List ℕ)). t ∷ more) (bare b ts)

  bare_second : (seconds : List SecondName) → flat_map (second_texts class) seconds ≡ map (λ (n : Bool × List ℕ). n.1) (flat_map second_named seconds)
  bare_second [] = refl
  bare_second (s ∷ ss) =
      ap (λ (more : List (List ℕ)). second_texts class s ++ more) (bare_second ss)
      ∙ ap (λ (first : List (List ℕ)). first ++ map (λ (n : Bool × List ℕ). n.1) (flat_map second_named ss)) (bare (is_linkage s) (second_texts class s))
      ∙ sym (map-append (λ (n : Bool × List ℕ). n.1) (second_named s) (flat_map second_named ss))

  -- by its facts, its name and its linkage name
  pub names_told : (facts : ItemFacts) (name linkage : Option (List ℕ)) → facts ≡ facts_of d.item → name ≡ name_of p class d → linkage ≡ linkage_of p d →
      item_names class facts name linkage ≡ item_names class (facts_of d.item) (name_of p class d) (linkage_of p d)
  names_told facts name linkage are is_name is_linkage =
      ap (λ (x : ItemFacts). item_names class x name linkage) are
      ∙ ap (λ (x : Option (List ℕ)). item_names class (facts_of d.item) x linkage) is_name
      ∙ ap (λ (x : Option (List ℕ)). item_names class (facts_of d.item) (name_of p class d) x) is_linkage

  -- the texts of these names are those of the item
  pub texts_told : (names : ItemNames) → names ≡ item_names class (facts_of d.item) (name_of p class d) (linkage_of p d) →
      (first second : List (List ℕ)) → first ≡ full_texts p class d names.name → second ≡ flat_map (second_texts class) (option_to_list names.second) →
      first ++ second ≡ map (λ (n : Bool × List ℕ). n.1) (names_of p class d)
  unfolding names_of
  texts_told names are first second is_first is_second =
      let fulls = full_texts p class d names.name in
      let named = map (λ (text : List ℕ). (false, text)) fulls in
      let seconds = flat_map second_named (option_to_list names.second) in
      ap (λ (ts : List (List ℕ)). ts ++ second) (is_first ∙ bare false fulls)
      ∙ ap (λ (ts : List (List ℕ)). map (λ (n : Bool × List ℕ). n.1) named ++ ts) (is_second ∙ bare_second (option_to_list names.second))
      ∙ sym (map-append (λ (n : Bool × List ℕ). n.1) named seconds)
      ∙ ap (λ (x : ItemNames). map (λ (n : Bool × List ℕ). n.1) (map (λ (text : List ℕ). (false, text)) (full_texts p class d x.name) ++ flat_map second_named (option_to_list x.second))) are

-- where the name stands that is the first on the item's chain, there stands the one under which it is listed
pub own_stands : (ss : List Section) (p : Program) (class : LanguageClass) (d : Located) (place : Option ℕ) → StandsAt ss place (first_name p d) → (linkage o : Option (List ℕ)) →
    o ≡ (item_names class (facts_of d.item) (name_of p class d) linkage).name → IfSome o (λ n. StandsAt ss place (Some n))
own_stands ss p class d place stands linkage None is = tt
own_stands ss p class d place stands linkage (Some n) is = by (gives_scope_alone (facts_of d.item) && not (is_ada class)) _ _ refl refl is
  where
    by : (b : Bool) (bare named : ItemNames) → bare.name ≡ None → named.name ≡ name_of p class d → Some n ≡ (cond b bare named).name → StandsAt ss place (Some n)
    by true bare named none own e = let no : Some n ≡ None = e ∙ none in absurd cc
    by false bare named none own e = stands_too ss p class d place stands n (sym (e ∙ own))

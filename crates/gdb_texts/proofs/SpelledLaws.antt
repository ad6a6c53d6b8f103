-- Names that were spelled beforehand, found by their places.
use Rattle.std.proofs.Common.{◌≡◌, ℕ, List, [], ◌∷◌, Option, Some, None, sym, subst}
use Rattle.std.specs.Borrow.{Bor}
use Rattle.std.specs.List.{All, AllZip}
use Rattle.std.specs.Option.{option_copied}
use Rattle.std.specs.Prelude.{nat_eq, IfSome}
use Rattle.std.proofs.lemmas.List.Elements.{All-nil, All-cons}
use Rattle.indexmap.specs.IndexMap.{IndexMap, get}
use Rattle.index_model.specs.Sections.{Section}
use Rattle.gdb_entries.specs.declared.language.LanguageClass.{LanguageClass}
use Rattle.gdb_entries.specs.declared.language.LanguageClass.TheVariants.{Cxx}
use Rattle.gdb_entries.specs.Components.{spelled}
use Rattle.gdb_items.specs.Chains.{StandsAt}
use Rattle.gdb_names.specs.Both.{AreBoth}
use Rattle.gdb_names.specs.declared.both.BothNames.{BothNames}
use Rattle.gdb_texts.specs.Spelled.{AllAreSpelled, IsKeptFor}

-- what is found at a place is what its text is spelled as
pub found : {S : Type 0} (ss : List Section) (known : IndexMap ℕ BothNames S) → AllAreSpelled ss known → (class : LanguageClass) → class ≡ Cxx →
    (given : Option ℕ) (place : ℕ) → given ≡ Some place → (o : Option (Bor BothNames)) → option_copied o ≡ get nat_eq known place → IfSome o (λ names. IsKeptFor ss class given names.now)
found ss known all class is given place there None e = tt
found ss known all class is given place there (Some b) e = record { of_cxx = is; at = place; place_is = there; spelled = all place b.now (sym e) }

-- it is what the name is spelled as that stands there
pub spelled_there : (ss : List Section) (class : LanguageClass) (place : Option ℕ) (names : BothNames) → IsKeptFor ss class place names → (name : List ℕ) → StandsAt ss place (Some name) →
    AreBoth (λ release. spelled release class name) names
spelled_there ss class place names h name stands =
    let there = subst (λ (o : Option ℕ). StandsAt ss o (Some name)) h.place_is stands in
    subst (λ (c : LanguageClass). AreBoth (λ release. spelled release c name) names) (sym h.of_cxx) (h.spelled name there.1)

-- what holds of each result that a list gives, whatever it is given for
pub all_given : {X Y : Type 0} (Q : Y → Type 0) (xs : List X) (ys : List Y) → AllZip (λ x y. Q y) xs ys → All Q ys
all_given Q [] [] h = All-nil Q
all_given Q [] (y ∷ ys) h = absurd h
all_given Q (x ∷ xs) [] h = absurd h
all_given Q (x ∷ xs) (y ∷ ys) h = All-cons Q y ys h.0 (all_given Q xs ys h.1)

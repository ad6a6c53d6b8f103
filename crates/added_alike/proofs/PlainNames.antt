-- Names of sections that are not compressed.
use Rattle.std.proofs.Common.{◌≡◌, ℕ, ◌+◌, List, [], ◌∷◌, ◌++◌, map, Option, Some, None, refl, ◌∙◌}
use Rattle.std.specs.List.{enumerate_from, AllByRecursion as AllOf}
use Rattle.index_model.specs.Sections.{Section, is_compressed}
use Rattle.reach_model.specs.Added.{NewSection, Addition, debug_str, new_sections, strings_alone, strings_index}
use Rattle.reach_model.specs.AddedSections.{IsNameOfOne, old_section}
use Rattle.added_alike.proofs.NewSections.{plain}
use Rattle.reach_model.proofs.Read.{ArePlain}
use Rattle.added_alike.proofs.Texts.{HasNoZero}

abbrev pub AreNames : List NewSection → Type 0
AreNames ss = AllOf (λ s. IsNameOfOne s.name) ss

all_joined : {X : Type 0} (P : X → Type 0) (xs ys : List X) → AllOf P xs → AllOf P ys → AllOf P (xs ++ ys)
all_joined P [] ys a b = b
all_joined P (x ∷ xs) ys a b = (a.0, all_joined P xs ys a.1 b)

debug_str_is_one : IsNameOfOne debug_str
debug_str_is_one = record { no_zero = (refl, (refl, (refl, (refl, (refl, (refl, (refl, (refl, (refl, (refl, tt)))))))))); plain = refl }

alone_are : (o : Option ℕ) (strings : Option (List ℕ)) → AreNames (strings_alone o strings)
alone_are (Some i) strings = tt
alone_are None None = tt
alone_are None (Some text) = (debug_str_is_one, tt)

pub new_are_names : (file : List ℕ) (sections : List Section) (addition : Addition) → AreNames addition.sections → AreNames (new_sections file sections addition)
unfolding new_sections
new_are_names file sections addition names = all_joined (λ s. IsNameOfOne s.name) addition.sections (strings_alone (strings_index file sections addition) addition.strings) names (alone_are (strings_index file sections addition) addition.strings)

pub without_zeros : (ss : List NewSection) → AreNames ss → AllOf (λ s. HasNoZero s.name) ss
without_zeros [] names = tt
without_zeros (s ∷ ss) names = (names.0.no_zero, without_zeros ss names.1)

pub new_are_plain : (ss : List NewSection) → AreNames ss → ArePlain (map plain ss)
new_are_plain [] names = tt
new_are_plain (s ∷ ss) names = (names.0.plain, new_are_plain ss names.1)

module _ (file : List ℕ) (sections : List Section) (addition : Addition) where
  still_plain : (e : ℕ × Section) → is_compressed (old_section file sections addition e) ≡ is_compressed e.1
  unfolding old_section
  still_plain e = refl

  pub old_are_plain : (ss : List Section) (i : ℕ) → ArePlain ss → ArePlain (map (old_section file sections addition) (enumerate_from i ss))
  old_are_plain [] i all = tt
  old_are_plain (s ∷ ss) i all = (still_plain (i, s) ∙ all.0, old_are_plain ss (i + 1) all.1)

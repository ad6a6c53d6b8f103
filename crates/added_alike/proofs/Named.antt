-- Sections by their names, before and after sections are added.
use Rattle.std.proofs.Common.{◌≡◌, ℕ, subst, arith, Bool, true, false, cond, List, [], ◌∷◌, ◌++◌, map, find, Option, Some, None, refl, sym, ap, ◌∙◌, ⊎_elim, bytes_eq}
use Rattle.std.specs.Prelude.{Contains, option_map, option_and_then}
use Rattle.std.specs.List.{enumerate_from, AllByRecursion as AllOf}
use Rattle.std.specs.Option.{option_or}
use Rattle.std.proofs.lemmas.List.Folds.{find-append}
use Rattle.std.proofs.lemmas.List.Elements.{Contains-append_cases}
use Rattle.std.proofs.lemmas.Slice.Eq.{bytes_eq-Decides}
use Rattle.common_laws.proofs.Booleans.{same_each_way}
use Rattle.common_laws.proofs.Members.{contains_cases}
use Rattle.common_laws.proofs.Options.{of_option_map}
use Rattle.index_model.specs.Sections.{Section, index_named, section_bytes}
use Rattle.reach_model.specs.Added.{NewSection, Addition, new_sections, strings_alone, strings_index, debug_str}
use Rattle.reach_model.specs.AddedSections.{AreApart, Fits, IsNewIn, more_at, new_section, old_section, sections_then}
use Rattle.reach_model.proofs.Found.{bytes_there, content_of, is_named, is_named_there}
use Rattle.added_alike.specs.AddedAlike.{AddedSectionsAreFound, NamedSectionsKeepTheirBytes}

abbrev pub is_new_named : List ℕ → NewSection → Bool
is_new_named name s = bytes_eq s.name name

abbrev found : {A : Type 0} → A → Option A
found x = Some x

-- ---- what is found in a list that was made from another

-- a test that goes by what is kept finds the same in a map
pub found_in_map : {A B : Type 0} (f : A → B) (p : A → Bool) (q : B → Bool) → ((x : A) → q (f x) ≡ p x) → (xs : List A) → find q (map f xs) ≡ option_map f (find p xs)
found_in_map f p q same [] = refl
found_in_map {B = B} f p q same (x ∷ xs) =
    ap (λ (b : Bool). cond b (Some (f x)) (find q (map f xs))) (same x) ∙
    by (found_in_map f p q same xs) (p x)
  where
    by : find q (map f xs) ≡ option_map f (find p xs) → (b : Bool) → cond b (Some (f x)) (find q (map f xs)) ≡ option_map f (cond b (Some x) (find p xs))
    by rest true = refl
    by rest false = rest

module _ (file : List ℕ) (sections : List Section) (addition : Addition) where
  old_is_named : (name : List ℕ) (e : ℕ × Section) → is_named name (old_section file sections addition e) ≡ is_named_there name e
  unfolding old_section
  old_is_named name e = refl

  new_is_named : (name : List ℕ) (s : NewSection) → is_named name (new_section file sections addition s) ≡ is_new_named name s
  unfolding new_section
  new_is_named name s = refl

  old_content : (e : ℕ × Section) → (old_section file sections addition e).content ≡ e.1.content ++ more_at file sections addition e.0
  unfolding old_section
  old_content e = refl

  new_content : (s : NewSection) → (new_section file sections addition s).content ≡ s.content
  unfolding new_section
  new_content s = refl

  abbrev old_named : List ℕ → Option (ℕ × Section)
  old_named name = find (is_named_there name) (enumerate_from 1 sections)

  abbrev new_named : List ℕ → Option NewSection
  new_named name = find (is_new_named name) (new_sections file sections addition)

  -- the first section of a name is one of the program's, or else one of those that are added
  named_then : (name : List ℕ) → find (is_named name) (sections_then file sections addition) ≡ option_or (option_map (old_section file sections addition) (old_named name)) (option_map (new_section file sections addition) (new_named name))
  unfolding sections_then
  named_then name =
      let old = found_in_map (old_section file sections addition) (is_named_there name) (is_named name) (old_is_named name) (enumerate_from 1 sections) in
      let new = found_in_map (new_section file sections addition) (is_new_named name) (is_named name) (new_is_named name) (new_sections file sections addition) in
      find-append (is_named name) (map (old_section file sections addition) (enumerate_from 1 sections)) (map (new_section file sections addition) (new_sections file sections addition)) ∙ rw (old, new) refl

  -- a section of the program is found before those that are added
  pub found_old : (name : List ℕ) (e : ℕ × Section) → old_named name ≡ Some e → section_bytes (sections_then file sections addition) name ≡ e.1.content ++ more_at file sections addition e.0
  found_old name e is =
      let then : Option Section = option_or (found (old_section file sections addition e)) (option_map (new_section file sections addition) (new_named name)) in
      let at : option_or (option_map (old_section file sections addition) (old_named name)) (option_map (new_section file sections addition) (new_named name)) ≡ then = rw is refl in
      ap content_of (named_then name ∙ at) ∙ old_content e

  pub found_new : (name : List ℕ) (s : NewSection) → old_named name ≡ None → new_named name ≡ Some s → section_bytes (sections_then file sections addition) name ≡ s.content
  found_new name s none is =
      let then : Option Section = found (new_section file sections addition s) in
      let at : option_or (option_map (old_section file sections addition) (old_named name)) (option_map (new_section file sections addition) (new_named name)) ≡ then = rw (none, is) refl in
      ap content_of (named_then name ∙ at) ∙ new_content s

  -- where neither has the name, there are no bytes
  pub found_nowhere : (name : List ℕ) → old_named name ≡ None → new_named name ≡ None → section_bytes (sections_then file sections addition) name ≡ []
  found_nowhere name none is =
      let nothing : Option Section = None in
      let at : option_or (option_map (old_section file sections addition) (old_named name)) (option_map (new_section file sections addition) (new_named name)) ≡ nothing = rw (none, is) refl in
      ap content_of (named_then name ∙ at)

pub named_sections_keep_their_bytes : NamedSectionsKeepTheirBytes
named_sections_keep_their_bytes file sections addition name i is =
    let there = of_option_map (λ (e : ℕ × Section). e.0) (find (is_named_there name) (enumerate_from 1 sections)) i is in
    found_old file sections addition name there.0 there.1
    ∙ ap (λ (w : List ℕ). w ++ more_at file sections addition there.0.0) (sym (bytes_there sections name there.0 there.1))
    ∙ ap (λ (k : ℕ). section_bytes sections name ++ more_at file sections addition k) there.2

-- ---- the sections that are added have names of their own

same_name : (a b : List ℕ) → bytes_eq a b ≡ bytes_eq b a
same_name a b = same_each_way (bytes_eq a b) (bytes_eq b a)
    (λ e. (bytes_eq-Decides b a).1 (sym ((bytes_eq-Decides a b).0 e)))
    (λ e. (bytes_eq-Decides a b).1 (sym ((bytes_eq-Decides b a).0 e)))

is_itself : (a : List ℕ) → bytes_eq a a ≡ true
is_itself a = (bytes_eq-Decides a a).1 refl

all_in : {X : Type 0} (P : X → Type 0) (xs : List X) (x : X) → AllOf P xs → Contains xs x → P x
all_in P [] x all c = absurd (omega (arith, c.1))
all_in P (y ∷ ys) x all c = ⊎_elim (λ (e : y ≡ x). subst P e all.0) (λ (l : Contains ys x). all_in P ys x all.1 l) (contains_cases y ys x c)

-- of sections with different names, each is found by its own
found_apart : (ss ts : List NewSection) (s : NewSection) → AreApart ss → Contains ss s → find (is_new_named s.name) (ss ++ ts) ≡ Some s
found_apart [] ts s apart c = absurd (omega (arith, c.1))
found_apart (x ∷ xs) ts s apart c = ⊎_elim here (later (found_apart xs ts s apart.1)) (contains_cases x xs s c)
  where
    here : x ≡ s → find (is_new_named s.name) (x ∷ (xs ++ ts)) ≡ Some s
    here e = subst (λ (y : NewSection). find (is_new_named s.name) (y ∷ (xs ++ ts)) ≡ Some s) (sym e) (ap (λ (b : Bool). cond b (found s) (find (is_new_named s.name) (xs ++ ts))) (is_itself s.name))

    later : (Contains xs s → find (is_new_named s.name) (xs ++ ts) ≡ Some s) → Contains xs s → find (is_new_named s.name) (x ∷ (xs ++ ts)) ≡ Some s
    later rest l =
        let other : bytes_eq x.name s.name ≡ false = same_name x.name s.name ∙ all_in (λ (t : NewSection). bytes_eq t.name x.name ≡ false) xs s apart.0 l in
        ap (λ (b : Bool). cond b (found x) (find (is_new_named s.name) (xs ++ ts))) other ∙ rest l

-- where none has the name, it is found behind them
pub found_behind : (ss ts : List NewSection) (name : List ℕ) → AllOf (λ s. bytes_eq s.name name ≡ false) ss → find (is_new_named name) (ss ++ ts) ≡ find (is_new_named name) ts
found_behind [] ts name all = refl
found_behind (x ∷ xs) ts name all = ap (λ (b : Bool). cond b (found x) (find (is_new_named name) (xs ++ ts))) all.0 ∙ found_behind xs ts name all.1

pub none_there : (sections : List Section) (name : List ℕ) → index_named sections name ≡ None → find (is_named_there name) (enumerate_from 1 sections) ≡ None
none_there sections name is = by (find (is_named_there name) (enumerate_from 1 sections)) is
  where
    by : (o : Option (ℕ × Section)) → option_map (λ e. e.0) o ≡ None → o ≡ None
    by (Some e) h = absurd cc
    by None h = refl

-- what is known of an added section's name
abbrev IsFound : List ℕ → List Section → Addition → NewSection → Type 0
IsFound file sections addition s = (index_named sections s.name ≡ None) × (find (is_new_named s.name) (new_sections file sections addition) ≡ Some s)

alone_is : (strings : Option (List ℕ)) (o : Option ℕ) (s : NewSection) → Contains (strings_alone o strings) s → (o ≡ None) × (text : List ℕ) × (strings ≡ Some text) × (s ≡ record { name = debug_str; content = text }) × (strings_alone o strings ≡ s ∷ [])
alone_is strings (Some i) s c = absurd (omega (arith, c.1))
alone_is None None s c = absurd (omega (arith, c.1))
alone_is (Some text) None s c = ⊎_elim (λ (e : record { name = debug_str; content = text } ≡ s). (refl, text, refl, sym e, ap (λ (t : NewSection). t ∷ []) e)) (λ (l : Contains [] s). absurd (omega (arith, l.1))) (contains_cases (record { name = debug_str; content = text }) [] s c)

module _ (file : List ℕ) (sections : List Section) (addition : Addition) (fits : Fits file sections addition) where
  abbrev alone : List NewSection
  alone = strings_alone (strings_index file sections addition) addition.strings

  of_listed : (s : NewSection) → Contains addition.sections s → find (is_new_named s.name) (new_sections file sections addition) ≡ Some s
  unfolding new_sections
  of_listed s c = found_apart addition.sections alone s fits.apart c

  of_alone : (s : NewSection) → s.name ≡ debug_str → alone ≡ s ∷ [] → find (is_new_named s.name) (new_sections file sections addition) ≡ Some s
  unfolding new_sections
  of_alone s name is =
      let others : AllOf (λ t. bytes_eq t.name s.name ≡ false) addition.sections = subst (λ (n : List ℕ). AllOf (λ t. bytes_eq t.name n ≡ false) addition.sections) (sym name) fits.not_strings in
      found_behind addition.sections alone s.name others ∙ ap (find (is_new_named s.name)) is ∙ ap (λ (b : Bool). cond b (found s) None) (is_itself s.name)

  strings_new : (text : List ℕ) → addition.strings ≡ Some text → strings_index file sections addition ≡ None → index_named sections debug_str ≡ None
  unfolding strings_index
  strings_new text is none = sym (ap (λ (o : Option (List ℕ)). option_and_then (λ strings. index_named sections debug_str) o) is) ∙ none

  found_by_name : (s : NewSection) → Contains (new_sections file sections addition) s → IsFound file sections addition s
  unfolding new_sections
  found_by_name s c = ⊎_elim
      (λ (l : Contains addition.sections s). (all_in (IsNewIn sections) addition.sections s fits.new l, of_listed s l))
      (λ (l : Contains alone s).
      let a = alone_is addition.strings (strings_index file sections addition) s l in
      let name : s.name ≡ debug_str = ap (λ (t : NewSection). t.name) a.3 in
      (ap (index_named sections) name ∙ strings_new a.1 a.2 a.0, of_alone s name a.4))
      (Contains-append_cases addition.sections alone s c)

pub added_sections_are_found : AddedSectionsAreFound
added_sections_are_found file sections addition fits s c =
    let f = found_by_name file sections addition fits s c in
    found_new file sections addition s.name s (none_there sections s.name f.0) f.1

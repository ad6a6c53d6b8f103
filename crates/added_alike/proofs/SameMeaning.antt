-- A program with sections added means what the program means.
use Rattle.std.proofs.Common.{◌≡◌, ◌≢◌, ℕ, Bool, true, false, eqb, List, [], ◌++◌, find, bytes_eq, codes, Option, Some, None, refl, sym, ap, ◌∙◌}
use Rattle.std.specs.Prelude.{option_map}
use Rattle.std.specs.List.{AllByRecursion as AllOf}
use Rattle.std.proofs.lemmas.Bool.{ne_eqb}
use Rattle.std.proofs.lemmas.List.{append-nil}
use Rattle.std.proofs.lemmas.Option.{same_Some}
use Rattle.std.proofs.lemmas.Slice.Eq.{bytes_eq-Decides}
use Rattle.index_model.specs.Sections.{Section, index_named, names_index, section_bytes}
use Rattle.reach_model.specs.Added.{Addition, added, debug_str, is_at, new_sections, strings_alone, strings_index}
use Rattle.reach_model.specs.AddedSections.{more_at, sections_then}
use Rattle.reach_model.proofs.Accepted.{Accepted, accepted}
use Rattle.reach_model.proofs.BuiltSections.{built_sections}
use Rattle.reach_model.proofs.Found.{found_by, no_bytes}
use Rattle.reach_model.proofs.Kept.{at_some, named_at, strings_named}
use Rattle.grown_alike.specs.Grown.{Grows}
use Rattle.grown_alike.proofs.Whole.{grown_alike}
use Rattle.added_alike.specs.AddedMeaning.{AddedProgramsMeanTheSame, NamesAreApart}
use Rattle.added_alike.proofs.FileBytes.{sections_of_bytes_are_added}
use Rattle.added_alike.proofs.Named.{found_behind, found_nowhere, is_new_named, named_sections_keep_their_bytes, none_there}

abbrev some_index : ℕ → Option ℕ
some_index i = Some i

module _ (file : List ℕ) (sections : List Section) (addition : Addition) where
  abbrev then_ : List Section
  then_ = sections_then file sections addition

  -- ---- every section grows

  grown_by : (name : List ℕ) (o : Option ℕ) → index_named sections name ≡ o → (more : List ℕ) × (section_bytes then_ name ≡ section_bytes sections name ++ more)
  grown_by name (Some i) is = (more_at file sections addition i, named_sections_keep_their_bytes file sections addition name i is)
  grown_by name None is = (section_bytes then_ name, sym (ap (λ (w : List ℕ). w ++ section_bytes then_ name) (no_bytes sections name (none_there sections name is))))

  -- ---- those of units get no bytes

  module _ (ok : Accepted file sections) (name : List ℕ) (other : bytes_eq name debug_str ≡ false) (apart : index_named sections name ≢ Some (names_index file)) where
    module _ (i : ℕ) (named : index_named sections name ≡ Some i) where
      -- one section has one name
      isnt_strings : index_named sections debug_str ≡ Some i → ⊥
      isnt_strings strings =
          let same : name ≡ debug_str = same_Some name debug_str (sym (named_at file sections ok name i named) ∙ named_at file sections ok debug_str i strings) in
          absurd (let both : true ≡ false = sym ((bytes_eq-Decides name debug_str).1 same) ∙ other in cc)

      strings_by : (b : Bool) → is_at i (strings_index file sections addition) ≡ b → b ≡ false
      strings_by true is = absurd (isnt_strings (strings_named file sections ok addition i (at_some i (strings_index file sections addition) is)))
      strings_by false is = refl

      isnt_names : eqb i (names_index file) ≡ false
      isnt_names = ne_eqb i (names_index file) (λ e. apart (named ∙ ap some_index e))

      nothing_more : more_at file sections addition i ≡ []
      unfolding more_at
      nothing_more =
          let first = strings_by (is_at i (strings_index file sections addition)) refl in
          let second = isnt_names in
          rw (first, second) refl

      stays : section_bytes then_ name ≡ section_bytes sections name
      stays = named_sections_keep_their_bytes file sections addition name i named ∙ ap (λ (w : List ℕ). section_bytes sections name ++ w) nothing_more ∙ append-nil (section_bytes sections name)

  -- ---- those that aren't there

  module _ (name : List ℕ) (other : bytes_eq debug_str name ≡ false) (unnamed : AllOf (λ s. bytes_eq s.name name ≡ false) addition.sections) where
    none_alone : (o : Option ℕ) (strings : Option (List ℕ)) → find (is_new_named name) (strings_alone o strings) ≡ None
    none_alone (Some i) strings = refl
    none_alone None None = refl
    none_alone None (Some text) = rw other refl

    none_added : find (is_new_named name) (new_sections file sections addition) ≡ None
    unfolding new_sections
    none_added = found_behind addition.sections (strings_alone (strings_index file sections addition) addition.strings) name unnamed ∙ none_alone (strings_index file sections addition) addition.strings

    stays_away : index_named sections name ≡ None → section_bytes then_ name ≡ section_bytes sections name
    stays_away none =
        let nowhere = none_there sections name none in
        found_nowhere file sections addition name nowhere none_added ∙ sym (no_bytes sections name nowhere)

  -- ---- all of them

  module _ (ok : Accepted file sections) (apart : NamesAreApart file sections) (unnamed : AllOf (λ s. bytes_eq s.name (codes ".debug_types") ≡ false) addition.sections) where
    info_stays : section_bytes then_ (codes ".debug_info") ≡ section_bytes sections (codes ".debug_info")
    info_stays =
        let e = found_by sections (codes ".debug_info") ok.info in
        stays ok (codes ".debug_info") refl apart.info e.0.0 (ap (λ (o : Option (ℕ × Section)). option_map (λ d. d.0) o) e.1)

    types_by : (o : Option ℕ) → index_named sections (codes ".debug_types") ≡ o → section_bytes then_ (codes ".debug_types") ≡ section_bytes sections (codes ".debug_types")
    types_by (Some i) is = stays ok (codes ".debug_types") refl apart.types i is
    types_by None is = stays_away (codes ".debug_types") refl unnamed is

    sections_grow : Grows sections then_
    sections_grow = record {
      info = info_stays;
      types = types_by (index_named sections (codes ".debug_types")) refl;
      others = λ name. grown_by name (index_named sections name) refl;
    }

pub added_means_the_same : AddedProgramsMeanTheSame
added_means_the_same file b addition bytes is clear apart fits unnamed =
    let sections = b.program.sections in
    let before = built_sections file b is in
    let after = sections_of_bytes_are_added file sections addition bytes before clear fits in
    let grows = sections_grow file sections addition (accepted file sections before) apart unnamed in
    let meant = grown_alike file (added file sections addition) sections (sections_then file sections addition) b before after grows is in
    (meant.0, meant.1, meant.3)

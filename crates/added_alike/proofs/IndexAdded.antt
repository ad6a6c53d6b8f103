-- A program to which its index is added means what the program means.
use Rattle.std.proofs.Common.{◌≡◌, ◌<◌, ◌^◌, ℕ, false, List, length, bytes_eq, codes, Option, None, refl, sym, subst, rules}
use Rattle.std.specs.List.{AllByRecursion as AllOf}
use Rattle.common_laws.proofs.Options.{none_from}
use Rattle.index_model.specs.declared.job.CacheKind.{CacheKind}
use Rattle.index_model.specs.declared.job.CacheKind.TheVariants.{Gdb8, Gdb9, Names}
use Rattle.index_model.specs.Sections.{Section, index_named}
use Rattle.reach_model.specs.Added.{Addition, added, debug_str, names_start, new_sections}
use Rattle.reach_model.specs.AddedIndex.{index_section}
use Rattle.reach_model.specs.AddedSections.{Fits, HavePlaces, IsNameOfOne}
use Rattle.reach_model.proofs.Indexes.{index_as, index_of}
use Rattle.reach_model.proofs.Places.{places_fit}
use Rattle.added_alike.specs.AddedMeaning.{IndexedProgramsMeanTheSame, IsAccepted}
use Rattle.added_alike.proofs.SameMeaning.{added_means_the_same}

-- ---- the names of the sections of an index

name_of_one : (kind : CacheKind) → IsNameOfOne (index_section kind)
name_of_one Gdb8 = record { no_zero = search rules; plain = refl }
name_of_one Gdb9 = record { no_zero = search rules; plain = refl }
name_of_one Names = record { no_zero = search rules; plain = refl }

isnt_strings : (kind : CacheKind) → bytes_eq (index_section kind) debug_str ≡ false
isnt_strings Gdb8 = refl
isnt_strings Gdb9 = refl
isnt_strings Names = refl

isnt_types : (kind : CacheKind) → bytes_eq (index_section kind) (codes ".debug_types") ≡ false
isnt_types Gdb8 = refl
isnt_types Gdb9 = refl
isnt_types Names = refl

-- ---- what is added fits

-- one section of such a name, and strings
module _ (file : List ℕ) (sections : List Section) (kind : CacheKind) (none : index_named sections (index_section kind) ≡ None) (bytes : List ℕ) (strings : Option (List ℕ)) where
  abbrev index : Addition
  index = index_as (index_section kind) bytes strings

  index_fits : HavePlaces (names_start file sections index) (new_sections file sections index) → length (added file sections index) < 2 ^ 64 → Fits file sections index
  index_fits places size = record {
    names = (name_of_one kind, tt);
    apart = (tt, tt);
    new = (none, tt);
    not_strings = (isnt_strings kind, tt);
    places = places;
    size = size;
  }

  unnamed : AllOf (λ s. bytes_eq s.name (codes ".debug_types") ≡ false) index.sections
  unnamed = (isnt_types kind, tt)

abbrev HasPlaces : List ℕ → List Section → Addition → Type 0
HasPlaces file sections addition = HavePlaces (names_start file sections addition) (new_sections file sections addition)

pub indexed_means_the_same : IndexedProgramsMeanTheSame
indexed_means_the_same file b kind addition bytes small is clear apart new add size =
    let sections = b.program.sections in
    let own = index_of kind b addition add in
    let none = none_from (index_named sections (index_section kind)) new in
    let places = subst (HasPlaces file sections) own.is (places_fit file b kind addition small is add) in
    let short = subst (λ (a : Addition). length (added file sections a) < 2 ^ 64) own.is size in
    let index_then = index_as (index_section kind) own.bytes own.strings in
    subst (λ (a : Addition). IsAccepted b (added file sections a)) (sym own.is)
    (added_means_the_same file b index_then bytes is clear apart (index_fits file sections kind none own.bytes own.strings places short) (unnamed file sections kind none own.bytes own.strings))

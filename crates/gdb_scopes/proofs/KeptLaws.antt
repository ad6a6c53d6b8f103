-- What is kept of a unit.
use Rattle.std.proofs.Common.{◌≡◌, ℕ, true, List, map, is_some, Option, Some, None, Ok, refl, sym, ap, subst, ◌∙◌}
use Rattle.std.specs.Prelude.{Contains, find, nat_eq}
use Rattle.std.specs.Map.{lookup}
use Rattle.std.specs.declared.sync.Arc.{Arc}
use Rattle.std.specs.declared.alloc.Global.{Global}
use Rattle.indexmap.specs.IndexMap.{IndexMap}
use Rattle.std.specs.List.{AllZip}
use Rattle.std.specs.List.Sorted.{IsNonDecreasingBy}
use Rattle.std.proofs.lemmas.Option.{same_Some}
use Rattle.index_model.specs.Faults.{program_of}
use Rattle.index_model.specs.Program.{Program, Walked, Located}
use Rattle.shard_build.proofs.OnePlace.{home_of}
use Rattle.shard_build.specs.Found.{IsUnitAt}
use Rattle.gdb_entries.specs.declared.language.LanguageClass.{LanguageClass}
use Rattle.gdb_entries.specs.Owners.{class_read}
use Rattle.gdb_items.specs.declared.which.Which.{Which}
use Rattle.gdb_items.specs.declared.which.Which.TheVariants.{All}
use Rattle.gdb_items.specs.Files.{IsReadOf}
use Rattle.gdb_items.specs.Items.{keeps, kept_of, IsItemOf}
use Rattle.gdb_items.specs.Read.{items_in}
use Rattle.gdb_scopes.specs.declared.place.Place.{Place}
use Rattle.gdb_scopes.specs.declared.placed.UnitPlaces.{UnitPlaces}
use Rattle.gdb_scopes.specs.Places.{place_of, ForUnit, IsAt}
use Rattle.gdb_scopes.specs.Units.{AllArePlaced, IsPlaced}
use Rattle.gdb_scopes.proofs.PlacedLaws.{stands, places_rise, found_place, some_place}

-- ---- what is kept of all units

-- where nothing is put in, it is still so
pub kept_still : {S : Type 0} (f : List ℕ) (old new : IndexMap ℕ (Arc UnitPlaces Global) S) → AllArePlaced f old → new.entries ≡ old.entries → AllArePlaced f new
kept_still f old new all same unit placed e = all unit placed (ap (λ (es : List (ℕ × Arc UnitPlaces Global)). lookup (nat_eq unit) es) (sym same) ∙ e)

-- ---- one unit

-- what was read of a unit, and a place for each of it
pub placed_by : (f : List ℕ) (unit : ℕ) (class : LanguageClass) (placed : UnitPlaces) → IsReadOf f unit placed.read → ForUnit f unit (λ p w. class_read p w ≡ Some class) →
    ((p : Program) → program_of f ≡ Ok p → (w : Walked) → Contains p.walks w → class_read p w ≡ Some class → AllZip (IsItemOf p.sections) (items_in placed.read) (kept_of placed.read.which w) → placed.places.items ≡ map (place_of p class) (kept_of placed.read.which w)) →
    IsPlaced f unit placed
placed_by f unit class placed own by are = record {
  read = own;
  places = λ p is w wc number other read.
      let mine = by p is w wc number in
      let same : class ≡ other = same_Some class other (sym mine ∙ read) in
      subst (λ (x : LanguageClass). placed.places.items ≡ map (place_of p x) (kept_of placed.read.which w)) same (are p is w wc mine (own p is w wc number));
}

module _ (f : List ℕ) (p : Program) (is : program_of f ≡ Ok p) (unit o : ℕ) (d : Located) (here : IsAt p o d) (at : IsUnitAt f o (Some unit)) where
  -- the item stands in the unit of its offset
  pub number_there : d.home.number ≡ unit
  number_there = let h = home_of f p is o d here in sym (same_Some unit d.home.number (at p is d.home h.0 d.item h.1 h.2))

  module _ (placed : UnitPlaces) (kept : IsPlaced f unit placed) (class : LanguageClass) (read : class_read p d.home ≡ Some class) where
    are : placed.places.items ≡ map (place_of p class) (kept_of placed.read.which d.home)
    are = kept.places p is d.home (home_of f p is o d here).0 number_there class read

    pub rise_there : IsNonDecreasingBy (λ x. x.offset) placed.places.items
    rise_there = places_rise f p is d.home (home_of f p is o d here).0 class placed.read.which placed.places.items are

    -- a place that is found is the item's
    pub place_there : (found : Option Place) → found ≡ find (stands o) placed.places.items → is_some found ≡ true → found ≡ Some (place_of p class d)
    place_there None e on = absurd (cc)
    place_there (Some x) e on = ap (λ (y : Place). Some y) (found_place f p is d.home (home_of f p is o d here).0 class placed.read.which placed.places.items are o d here x (sym e))

    -- among those of all items it is found
    pub place_whole : placed.read.which ≡ All → (found : Option Place) → found ≡ find (stands o) placed.places.items → found ≡ Some (place_of p class d)
    place_whole all found e =
        e ∙ some_place f p is d.home (home_of f p is o d here).0 class placed.read.which placed.places.items are o d here (λ x. ap (λ (w : Which). keeps w x.item) all) refl

-- What is kept of the units of a file.
use Rattle.std.specs.Prelude.{◌≡◌, ℕ, List, map, nat_eq, Option, Some}
use Rattle.std.specs.Arc.{arc_value}
use Rattle.std.specs.declared.sync.Arc.{Arc}
use Rattle.std.specs.declared.alloc.Global.{Global}
use Rattle.indexmap.specs.IndexMap.{IndexMap, get}
use Rattle.gdb_entries.specs.Owners.{class_read}
use Rattle.gdb_entries.specs.declared.language.LanguageClass.{LanguageClass}
use Rattle.gdb_entries.specs.Files.{ForProgram}
use Rattle.gdb_items.specs.Files.{IsReadOf}
use Rattle.gdb_items.specs.Items.{kept_of}
use Rattle.gdb_items.specs.declared.by_owner.Reading.{Reading}
use Rattle.gdb_scopes.specs.declared.placed.UnitPlaces.{UnitPlaces}
use Rattle.gdb_scopes.specs.Places.{place_of, ForUnit}
use Rattle.gdb_items.specs.Readings.{reading_of}

-- of each unit it is told how it is read
abbrev pub AreReadingsOf : List ℕ → List (Option Reading) → Type 0
AreReadingsOf file readings = ForProgram file (λ p. readings ≡ map (reading_of p) p.walks)

-- what was read of the unit with the number, and the place of each item by the class by which the unit is read
pub record IsPlaced (file : List ℕ) (unit : ℕ) (placed : UnitPlaces) : Type 0 where
  pub read : IsReadOf file unit placed.read
  pub places : ForUnit file unit (λ p w. (class : LanguageClass) → class_read p w ≡ Some class → placed.places.items ≡ map (place_of p class) (kept_of placed.read.which w))

-- so is what is kept of each unit
abbrev pub AllArePlaced : {S : Type 0} → List ℕ → IndexMap ℕ (Arc UnitPlaces Global) S → Type 0
AllArePlaced file known = (unit : ℕ) (placed : Arc UnitPlaces Global) → get nat_eq known unit ≡ Some placed → IsPlaced file unit (arc_value placed)

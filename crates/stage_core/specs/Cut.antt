-- The cut of a file's units into runs.
use Rattle.std.specs.Prelude.{◌≡◌, ℕ, zero, suc, ◌/◌, List, [], ◌∷◌, length, take, drop, Result, Ok, Err}
use Rattle.ix_base.specs.declared.fault.Fault.{Fault}
use Rattle.index_model.specs.declared.unit.Unit.{Unit as UnitHeader}
use Rattle.index_model.specs.Meaning.{◌>>=◌}
use Rattle.index_model.specs.Sections.{Section, sections_of}
use Rattle.index_model.specs.Units.{units_of}

-- so many runs, as even as can be: of the items that are left, the next run has the number that the runs which are left have on the average
unfoldable pub cut : {A : Type 0} → ℕ → List A → List (List A)
cut zero items = []
cut (suc runs) items = take (length items / suc runs) items ∷ cut runs (drop (length items / suc runs) items)

-- the items, or none
abbrev pub ok_or_none : {A : Type 0} → Result (List A) Fault → List A
ok_or_none (Ok items) = items
ok_or_none (Err f) = []

-- the units of a file, or none where its sections or headers have a fault
unfoldable pub units_in : List ℕ → List UnitHeader
units_in file = ok_or_none (sections_of file >>= λ ss. units_of ss)

-- the sections and headers of the file have no fault, and these are all its units, in section order
pub record HasUnits (file : List ℕ) (units : List UnitHeader) : Type 0 where
  pub sections : List Section
  pub sections_are : sections_of file ≡ Ok sections
  pub units_are : units_of sections ≡ Ok units

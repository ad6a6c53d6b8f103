-- The first fault of a file, by five phases (this project's own rule). A later phase counts only where the earlier ones found nothing.
use Rattle.std.specs.Prelude.{◌≡◌, ℕ, List, Option, Some, None, Result, Ok, Err}
use Rattle.std.specs.List.{enumerate_from}
use Rattle.ix_base.specs.declared.fault.Fault.{Fault}
use Rattle.index_model.specs.declared.unit.Unit.{Unit as UnitHeader}
use Rattle.index_model.specs.declared.range.UnitRange.{UnitRange}
use Rattle.index_model.specs.Meaning.{◌>>=◌, ◌>>◌, at_place, each, wrong_in}
use Rattle.index_model.specs.Sections.{Section, sections_of}
use Rattle.index_model.specs.Units.{units_of}
use Rattle.index_model.specs.Program.{Walked, Program, walked, located}
use Rattle.index_model.specs.Strings.{texts_of}
use Rattle.index_model.specs.Links.{Link, links_in}
use Rattle.index_model.specs.Ranges.{ranges_in}

-- the fault that is there, if there is one
abbrev pub none_or : Option Fault → Result (record {}) Fault
none_or None = Ok (record {})
none_or (Some f) = Err f

-- ---- what each phase reads

-- a unit: the abbreviations, then the walk, then the strings of each entry in the order of the walk
unfoldable pub scanned : List Section → ℕ × UnitHeader → Result Walked Fault
scanned ss u = do
  w ← walked ss u
  none_or w.walk.end
  each (λ d. at_place d.item.at (texts_of ss d)) (located w)
  Ok w

-- the units, in section order
unfoldable pub scan_of : List Section → List UnitHeader → Result (List Walked) Fault
scan_of ss us = each (scanned ss) (enumerate_from 0 us)

-- the references of all units
unfoldable pub links_of : Program → Result (List Link) Fault
links_of p = links_in p p.walks

-- the ranges of all units
unfoldable pub all_ranges : Program → List Link → Result (List UnitRange) Fault
all_ranges p ks = ranges_in p ks p.walks

-- ---- the phases

-- phase 1: the first fault of the sections
abbrev pub elf_fault : List ℕ → Option Fault
elf_fault f = wrong_in (sections_of f)

-- phase 2: the first fault of the units' headers
abbrev pub header_fault : List Section → Option Fault
header_fault ss = wrong_in (units_of ss)

-- phase 3: the first fault of the units' entries and their strings
abbrev pub unit_fault : List Section → List UnitHeader → Option Fault
unit_fault ss us = wrong_in (scan_of ss us)

-- phase 4: the first fault of the references
abbrev pub link_fault : Program → Option Fault
link_fault p = wrong_in (links_of p)

-- phase 5: the first fault of the ranges
abbrev pub range_fault : Program → List Link → Option Fault
range_fault p ks = wrong_in (all_ranges p ks)

-- ---- the whole file

-- a file without a fault: its walks, the links of its entries, and the ranges of its units
pub record Built : Type 0 where
  pub program : Program
  pub links : List Link
  pub ranges : List UnitRange

-- what phases 1 to 3 read
unfoldable pub program_of : List ℕ → Result Program Fault
program_of f = do
  ss ← sections_of f
  us ← units_of ss
  ws ← scan_of ss us
  Ok (record { sections = ss; walks = ws })

-- what all five phases read
unfoldable pub built_of : List ℕ → Result Built Fault
built_of f = do
  p ← program_of f
  ks ← links_of p
  rs ← all_ranges p ks
  Ok (record { program = p; links = ks; ranges = rs })

-- the first fault of the file, by the phases in order
abbrev pub first_fault : List ℕ → Option Fault
first_fault f = wrong_in (built_of f)

-- a file is accepted if it has no fault
abbrev pub IsAccepted : List ℕ → Type 0
IsAccepted f = first_fault f ≡ None

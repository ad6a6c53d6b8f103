-- The law of the first fault: it is that of the first phase that finds one.
use Rattle.std.specs.Prelude.{◌≡◌, ℕ, List, Some, Ok}
use Rattle.ix_base.specs.declared.fault.Fault.{Fault}
use Rattle.index_model.specs.declared.unit.Unit.{Unit as UnitHeader}
use Rattle.index_model.specs.declared.range.UnitRange.{UnitRange}
use Rattle.index_model.specs.Sections.{Section, sections_of}
use Rattle.index_model.specs.Units.{units_of}
use Rattle.index_model.specs.Program.{Program}
use Rattle.index_model.specs.Links.{Link}
use Rattle.index_model.specs.Faults.{elf_fault, header_fault, unit_fault, link_fault, range_fault, program_of, links_of, all_ranges, first_fault, IsAccepted}

-- each phase where the earlier ones found nothing; and no phase, where all found nothing
pub record IsByPhases (f : List ℕ) : Type 0 where
  pub elf : (e : Fault) → elf_fault f ≡ Some e → first_fault f ≡ Some e
  pub header : (ss : List Section) → sections_of f ≡ Ok ss → (e : Fault) → header_fault ss ≡ Some e → first_fault f ≡ Some e
  pub unit : (ss : List Section) (us : List UnitHeader) → sections_of f ≡ Ok ss → units_of ss ≡ Ok us → (e : Fault) → unit_fault ss us ≡ Some e → first_fault f ≡ Some e
  pub link : (p : Program) → program_of f ≡ Ok p → (e : Fault) → link_fault p ≡ Some e → first_fault f ≡ Some e
  pub range : (p : Program) (ks : List Link) → program_of f ≡ Ok p → links_of p ≡ Ok ks → (e : Fault) → range_fault p ks ≡ Some e → first_fault f ≡ Some e
  pub none_left : (p : Program) (ks : List Link) (us : List UnitRange) → program_of f ≡ Ok p → links_of p ≡ Ok ks → all_ranges p ks ≡ Ok us → IsAccepted f

-- the first fault of every file
abbrev pub FirstFaultIsByPhases : Type 0
FirstFaultIsByPhases = (f : List ℕ) → IsByPhases f

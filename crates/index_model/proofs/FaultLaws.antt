-- The first fault of a file is that of the first phase that finds one.
use Rattle.std.proofs.Common.{◌≡◌, ℕ, List, Some, Result, Ok, Err, refl}
use Rattle.ix_base.specs.declared.fault.Fault.{Fault}
use Rattle.index_model.specs.declared.unit.Unit.{Unit as UnitHeader}
use Rattle.index_model.specs.declared.range.UnitRange.{UnitRange}
use Rattle.index_model.specs.Meaning.{◌>>=◌, wrong_in}
use Rattle.index_model.specs.Sections.{Section, sections_of}
use Rattle.index_model.specs.Units.{units_of}
use Rattle.index_model.specs.Program.{Program}
use Rattle.index_model.specs.Links.{Link}
use Rattle.index_model.specs.Faults.{scan_of, links_of, all_ranges, elf_fault, header_fault, unit_fault, link_fault, range_fault, program_of, built_of, first_fault, IsAccepted}
use Rattle.index_model.specs.LawsFaults.{FirstFaultIsByPhases}

bind_wrong : {A B : Type 0} (r : Result A Fault) (g : A → Result B Fault) (e : Fault) → wrong_in r ≡ Some e → wrong_in (r >>= g) ≡ Some e
bind_wrong (Ok x) g e h = absurd cc
bind_wrong (Err d) g e h = h

module _ (f : List ℕ) where
  elf : (e : Fault) → elf_fault f ≡ Some e → first_fault f ≡ Some e
  unfolding built_of program_of
  elf e h = bind_wrong (program_of f) _ e (bind_wrong (sections_of f) _ e h)

  header : (ss : List Section) → sections_of f ≡ Ok ss → (e : Fault) → header_fault ss ≡ Some e → first_fault f ≡ Some e
  unfolding built_of program_of
  header ss has_ss e h = bind_wrong (program_of f) _ e (rw has_ss (bind_wrong (units_of ss) _ e h))

  unit : (ss : List Section) (us : List UnitHeader) → sections_of f ≡ Ok ss → units_of ss ≡ Ok us → (e : Fault) → unit_fault ss us ≡ Some e → first_fault f ≡ Some e
  unfolding built_of program_of
  unit ss us has_ss has_us e h = bind_wrong (program_of f) _ e (rw (has_ss, has_us) (bind_wrong (scan_of ss us) _ e h))

  module _ (p : Program) (has_p : program_of f ≡ Ok p) where
    link : (e : Fault) → link_fault p ≡ Some e → first_fault f ≡ Some e
    unfolding built_of
    link e h = rw has_p (bind_wrong (links_of p) _ e h)

    module _ (ks : List Link) (has_ks : links_of p ≡ Ok ks) where
      range : (e : Fault) → range_fault p ks ≡ Some e → first_fault f ≡ Some e
      unfolding built_of
      range e h = rw (has_p, has_ks) (bind_wrong (all_ranges p ks) _ e h)

      none_left : (us : List UnitRange) → all_ranges p ks ≡ Ok us → IsAccepted f
      unfolding built_of
      none_left us has_us = rw (has_p, has_ks, has_us) refl

pub first_by_phases : FirstFaultIsByPhases
first_by_phases f = record {
  elf = elf f;
  header = header f;
  unit = unit f;
  link = link f;
  range = λ p ks has_p has_ks. range f p has_p ks has_ks;
  none_left = λ p ks us has_p has_ks. none_left f p has_p ks has_ks us;
}

-- The sections of what a program is built of.
use Rattle.std.proofs.Common.{◌≡◌, ℕ, List, Result, Ok, ap, ◌∙◌}
use Rattle.ix_base.specs.declared.fault.Fault.{Fault}
use Rattle.index_model.specs.declared.range.UnitRange.{UnitRange}
use Rattle.index_model.specs.declared.unit.Unit.{Unit as UnitHeader}
use Rattle.index_model.specs.Meaning.{◌>>=◌}
use Rattle.index_model.specs.Sections.{Section, sections_of}
use Rattle.index_model.specs.Units.{units_of}
use Rattle.index_model.specs.Program.{Program, Walked}
use Rattle.index_model.specs.Links.{Link}
use Rattle.index_model.specs.Faults.{Built, all_ranges, built_of, links_of, program_of, scan_of}
use Rattle.index_model.proofs.Meanings.{bind_ok, same_ok}

abbrev with_ranges : Program → List Link → Result Built Fault
with_ranges p ks = all_ranges p ks >>= λ rs. Ok (record { program = p; links = ks; ranges = rs })

abbrev with_links : Program → Result Built Fault
with_links p = links_of p >>= with_ranges p

abbrev with_scan : List Section → List UnitHeader → Result Program Fault
with_scan ss us = scan_of ss us >>= λ ws. Ok (record { sections = ss; walks = ws })

abbrev with_units : List Section → Result Program Fault
with_units ss = units_of ss >>= with_scan ss

abbrev read : List Section → Result (List Section) Fault
read ss = Ok ss

program_in : (file : List ℕ) (b : Built) → built_of file ≡ Ok b → (p : Program) × (program_of file ≡ Ok p) × (p ≡ b.program)
unfolding built_of
program_in file b is =
    let p = bind_ok (program_of file) with_links b is in
    let k = bind_ok (links_of p.0) (with_ranges p.0) b p.2 in
    let r = bind_ok (all_ranges p.0 k.0) (λ (rs : List UnitRange). Ok (record { program = p.0; links = k.0; ranges = rs })) b k.2 in
    (p.0, p.1, ap (λ (c : Built). c.program) (same_ok (record { program = p.0; links = k.0; ranges = r.0 }) b r.2))

sections_in : (file : List ℕ) (p : Program) → program_of file ≡ Ok p → sections_of file ≡ Ok p.sections
unfolding program_of
sections_in file p is =
    let s = bind_ok (sections_of file) with_units p is in
    let u = bind_ok (units_of s.0) (with_scan s.0) p s.2 in
    let w = bind_ok (scan_of s.0 u.0) (λ (ws : List Walked). Ok (record { sections = s.0; walks = ws })) p u.2 in
    s.1 ∙ ap read (ap (λ (q : Program). q.sections) (same_ok (record { sections = s.0; walks = w.0 }) p w.2))

pub built_sections : (file : List ℕ) (b : Built) → built_of file ≡ Ok b → sections_of file ≡ Ok b.program.sections
built_sections file b is =
    let p = program_in file b is in
    sections_in file p.0 p.1 ∙ ap (λ (q : Program). read q.sections) p.2

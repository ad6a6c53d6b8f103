use Rattle.std.proofs.Common.{◌≡◌, ℕ, List, Some, Ok, sym, ap, subst, ◌∙◌}
use Rattle.std.specs.Prelude.{codes}
use Rattle.std.proofs.lemmas.Result.{err_from_is_err_and}
use Rattle.std.proofs.lemmas.Option.{same_Some}
use Rattle.index_model.specs.declared.unit.Unit.{Unit as UnitHeader}
use Rattle.ix_base.specs.declared.code.TheConstants.{BAD_ABBREVIATION}
use Rattle.index_model.specs.Abbreviations.{table}
use Rattle.index_model.specs.Meaning.{fault}
use Rattle.entry_scan.specs.declared.abbrev_table.AbbrevTable.{AbbrevTable}
use Rattle.index_model.specs.Gives.{StopsAs}
use Rattle.index_model.specs.Sections.{Section, section_bytes}
use Rattle.line_files.specs.Places.{place_of}
use Rattle.line_files.proofs.RootLaws.{place_is, place_stops, some_abbrevs, some_value}
use Rattle.line_files.proofs.place.line_place.Goals as goal

pub returns-in_err-table-clause-value : goal.returns-in_err-table-clause-value
returns-in_err-table-clause-value c u is =
    let ss = c.args.image.now.sections in
    let section : c.get-section.result.now ≡ section_bytes ss (codes ".debug_abbrev") = c.get-section.ensures.value ∙ ap (λ (xs : List Section). section_bytes xs (codes ".debug_abbrev")) c.sections.ensures.value in
    let same : c.unit_at-unit.result ≡ u = same_Some c.unit_at-unit.result u (sym c.unit_at-unit.ensures.value ∙ is) in
    let stops = place_stops ss (c.args.number, c.unit_at-unit.result) c.get-section.result.now c.in_err-table.field-0.0 section c.in_err-table.ensures.value in
    let p = err_from_is_err_and c.from_residual.result c.from_residual.ensures.1 in
    rw (p.1, p.2) (subst (λ (x : UnitHeader). StopsAs c.in_err-table.field-0.0 (place_of ss (c.args.number, x))) same stops)

pub returns-clause-value : goal.returns-clause-value
returns-clause-value c u is =
    let ss = c.args.image.now.sections in
    let unit = c.unit_at-unit.result in
    let own = c.unit_bytes.ensures.own unit c.unit_at-unit.ensures.value in
    let header = c.unit_bytes.ensures.header unit c.unit_at-unit.ensures.value in
    let section : c.get-section.result.now ≡ section_bytes ss (codes ".debug_abbrev") = c.get-section.ensures.value ∙ ap (λ (xs : List Section). section_bytes xs (codes ".debug_abbrev")) c.sections.ensures.value in
    let read = some_value (table c.get-section.result.now unit.«abbrev») (fault BAD_ABBREVIATION unit.start) c.in_ok-table.table.abbrevs c.in_ok-table.ensures.value in
    let found : table (section_bytes ss (codes ".debug_abbrev")) unit.«abbrev» ≡ Some c.insert-abbrevs.result.now.abbrevs =
    ap (λ (bytes : List ℕ). table bytes unit.«abbrev») (sym section) ∙ read ∙ ap (λ (t : AbbrevTable). some_abbrevs t.abbrevs) (sym c.insert-abbrevs.ensures.value) in
    let same : unit ≡ u = same_Some unit u (sym c.unit_at-unit.ensures.value ∙ is) in
    let place = place_is ss (c.args.number, unit) c.insert-abbrevs.result.now.abbrevs c.unit_bytes.result.now found own header in
    subst (λ (x : UnitHeader). place_of ss (c.args.number, x) ≡ Ok c.place_in.result) same (rw c.place_in.ensures place)

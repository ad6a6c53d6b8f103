use Rattle.std.proofs.Common.{◌≡◌, ℕ, List, sym, ap, subst, ◌∙◌}
use Rattle.std.specs.Prelude.{codes, IsOkAnd}
use Rattle.std.proofs.lemmas.Result.{err_from_is_err_and}
use Rattle.std.proofs.lemmas.Option.{same_Some}
use Rattle.index_model.specs.declared.unit.Unit.{Unit as UnitHeader}
use Rattle.index_model.specs.Faults.{scanned}
use Rattle.index_model.specs.Gives.{StopsAs}
use Rattle.index_model.specs.Sections.{Section, section_bytes}
use Rattle.entry_scan.specs.TablesAtOffsets.{IsAtOffset}
use Rattle.shard_build.specs.Runs.{HoldsOneMore}
use Rattle.shard_build.proofs.RunEnds.{table_stops}
use Rattle.shard_build.proofs.shard.add_unit.Goals as goal

pub of-requires : goal.of-requires
of-requires c =
    let section : c.debug_abbrev-section.result.now ≡ section_bytes c.args.image.now.sections (codes ".debug_abbrev") = c.debug_abbrev-section.ensures.value ∙ ap (λ (ss : List Section). section_bytes ss (codes ".debug_abbrev")) c.sections.ensures.value in
    λ t e. subst (λ (bytes : List ℕ). IsAtOffset bytes t) (sym section) (c.take-kept.ensures.taken _ c.requires.tables t e)

pub returns-in_err-table-clause-value : goal.returns-in_err-table-clause-value
returns-in_err-table-clause-value c u is =
    let ss = c.args.image.now.sections in
    let unit = c.of-home.result.unit in
    let stop = c.in_err-table.field-0.0 in
    let section : c.debug_abbrev-section.result.now ≡ section_bytes ss (codes ".debug_abbrev") = c.debug_abbrev-section.ensures.value ∙ ap (λ (xs : List Section). section_bytes xs (codes ".debug_abbrev")) c.sections.ensures.value in
    let here : ℕ × UnitHeader = (c.args.number, unit) in
    let stops : StopsAs stop (scanned ss here) = table_stops ss here c.debug_abbrev-section.result.now stop section c.in_err-table.ensures.value in
    let same : unit ≡ u = same_Some unit u (sym c.of-home.ensures.unit ∙ is) in
    let p = err_from_is_err_and c.from_residual.result c.from_residual.ensures.1 in
    rw (p.1, p.2) (subst (λ (x : UnitHeader). StopsAs stop (scanned ss (c.args.number, x))) same stops)

pub returns-in_err-unit-clause-value : goal.returns-in_err-unit-clause-value
returns-in_err-unit-clause-value c u is =
    let ss = c.args.image.now.sections in
    let own = c.of-home.result.unit in
    let stop = c.in_err-unit.field-0.0 in
    let same : own ≡ u = same_Some own u (sym c.of-home.ensures.unit ∙ is) in
    let at_number = subst (λ (k : ℕ). StopsAs stop (scanned c.of-home.result.sections.now (k, own))) c.of-home.ensures.number c.in_err-unit.ensures in
    let here = subst (λ (xs : List Section). StopsAs stop (scanned xs (c.args.number, own))) c.of-home.ensures.sections at_number in
    let p = err_from_is_err_and c.from_residual-in_err-unit.result c.from_residual-in_err-unit.ensures.1 in
    rw (p.1, p.2) (subst (λ (x : UnitHeader). StopsAs stop (scanned ss (c.args.number, x))) same here)

pub returns : goal.returns
returns c =
    let im = c.args.image.now in
    let own = c.of-home.result.unit in
    let section : c.debug_abbrev-section.result.now ≡ section_bytes im.sections (codes ".debug_abbrev") = c.debug_abbrev-section.ensures.value ∙ ap (λ (ss : List Section). section_bytes ss (codes ".debug_abbrev")) c.sections.ensures.value in
    record {
      value = λ u is.
          let same : own ≡ u = same_Some own u (sym c.of-home.ensures.unit ∙ is) in
          let at_number = subst (λ (k : ℕ). IsOkAnd (scanned c.of-home.result.sections.now (k, own)) (λ w. HoldsOneMore c.of-home.result.sections.now c.args.run.now c.unit.new.self w)) c.of-home.ensures.number c.in_ok-unit.ensures in
          let here = subst (λ (ss : List Section). IsOkAnd (scanned ss (c.args.number, own)) (λ w. HoldsOneMore ss c.args.run.now c.unit.new.self w)) c.of-home.ensures.sections at_number in
          subst (λ (x : UnitHeader). IsOkAnd (scanned im.sections (c.args.number, x)) (λ w. HoldsOneMore im.sections c.args.run.now c.unit.new.self w)) same here;
      tables =
          let own_table = subst (λ (bytes : List ℕ). IsAtOffset bytes c.in_ok-table.table) section c.in_ok-table.ensures.place in
          c.in_ok-put.ensures _ (c.take-kept.ensures.kept _ c.requires.tables) own_table;
    }

use Rattle.std.proofs.Common.{ap, sym, ◌∙◌}
use Rattle.index_model.specs.declared.unit.Unit.{Unit as UnitHeader}
use Rattle.index_model.specs.RangeLists.{list_of}
use Rattle.range_lists.specs.Homes.{as_value, unit_with}
use Rattle.range_lists.proofs.Roots.{header_at}
use Rattle.range_lists.proofs.Reading.{list_indexed, list_new, list_old}
use Rattle.range_lists.proofs.home.RangeUnit.add_list_from.Goals as goal

pub returns-in_ok-place-in-RangeIndex : goal.returns-in_ok-place-in-RangeIndex
returns-in_ok-place-in-RangeIndex c read =
    let ss = c.args.self.now.sections.now in
    let w = unit_with c.args.self.now in
    let base = c.args.first_base in
    let place = c.in_ok-place-in-RangeIndex in
    rw (ap (λ v. list_of ss w base (as_value v)) c.in-RangeIndex.is ∙ list_indexed ss w base c.in-RangeIndex.index place.place place.ensures.short place.ensures.place) (c.add_list_once.ensures read)

pub returns-then-self-eq5 : goal.returns-then-self-eq5
returns-then-self-eq5 c read =
    let ss = c.args.self.now.sections.now in
    let w = unit_with c.args.self.now in
    let base = c.args.first_base in
    rw (ap (λ v. list_of ss w base (as_value v)) c.in-Offset.is ∙ list_new ss w base c.in-Offset.place (ap (λ (u : UnitHeader). u.version) (header_at c.args.self.now) ∙ c.if-self-eq5.true)) (c.add_list_once-then-self-eq5.ensures read)

pub returns-else-self-eq5 : goal.returns-else-self-eq5
returns-else-self-eq5 c read =
    let ss = c.args.self.now.sections.now in
    let w = unit_with c.args.self.now in
    let base = c.args.first_base in
    rw (ap (λ v. list_of ss w base (as_value v)) c.in-Offset.is ∙ list_old ss w base c.in-Offset.place (λ is. c.if-self-eq5.false (ap (λ (u : UnitHeader). u.version) (sym (header_at c.args.self.now)) ∙ is))) (c.add_list_once-else-self-eq5.ensures read)

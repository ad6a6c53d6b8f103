use Rattle.std.proofs.Common.{ap, ◌∙◌}
use Rattle.gdb_reach.specs.declared.state.Look.{Look}
use Rattle.gdb_reach.specs.Standing.{IsNameTold, in_unit}
use Rattle.gdb_scopes.specs.Places.{unit_read}
use Rattle.gdb_scopes.proofs.WalkLaws.{placed_so, told_so}
use Rattle.gdb_scopes.proofs.unit.place_of.Goals as goal

pub returns-clause-is : goal.returns-clause-is
returns-clause-is c p is w passed d read stands behind h =
    let r = unit_read p c.args.class w in
    let told = told_so p.sections w d c.args.item.now h in
    placed_so p c.args.class w d c.args.item.now.offset c.look-look.result c.open_around-open_around.result h.offset (c.look-look.ensures r passed d stands behind told) (c.open_around-open_around.ensures.as_read r passed d stands behind told.depth read)

pub returns-clause-stands : goal.returns-clause-stands
returns-clause-stands c p is w passed d read stands behind h =
    let r = unit_read p c.args.class w in
    let told = told_so p.sections w d c.args.item.now h in
    let look = c.look-look.ensures r passed d stands behind told in
    let named : IsNameTold r d c.in_ok-has_name.has_name = λ seen on. c.in_ok-has_name.ensures.value p is (in_unit w d) h (ap (λ (l : Look). l.is_seen) look ∙ seen) on in
    c.in_ok-enter.ensures.ok r passed d stands behind told named h.offset

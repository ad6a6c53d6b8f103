use Rattle.std.proofs.Common.{sym, ap, subst, ◌∙◌, arith}
use Rattle.std.proofs.lemmas.Result.{err_from_is_err_and}
use Rattle.index_model.specs.Gives.{StopsAs}
use Rattle.line_files.specs.Found.{hits_seen}
use Rattle.line_files.proofs.RunLaws.{some_unit, unit_added, unit_stops}
use Rattle.line_files.proofs.run.hits_in_run.Goals as goal

pub returns-in_err-add_unit : goal.returns-in_err-add_unit
returns-in_err-add_unit c =
    let im = c.args.image.now in
    let u = some_unit im.units c.units.number (omega (arith, c.requires, c.units-test.true)) in
    let stop = c.in_err-add_unit.field-0.0 in
    let here = rw c.units.invariant.name at (c.in_err-add_unit.ensures.value u.0 u.1) in
    let stops = unit_stops im c.args.name.now (hits_seen c.units.run.hits.items) c.units.number c.args.to u.0 c.units-test.true u.1 stop here in
    let p = err_from_is_err_and c.from_residual.result c.from_residual.ensures.1 in
    rw (p.1, p.2) (subst (StopsAs stop) c.units.invariant.all stops)

pub units-preserved : goal.units-preserved
units-preserved c =
    let im = c.args.image.now in
    let u = some_unit im.units c.units.number (omega (arith, c.requires, c.units-test.true)) in
    let here = rw c.units.invariant.name at (c.in_ok-add_unit.ensures.value u.0 u.1) in
    record {
      all = sym (unit_added im c.args.name.now (hits_seen c.units.run.hits.items) c.units.number c.args.to u.0 c.units-test.true u.1 (hits_seen c.add_unit.new.self.hits.items) here) ∙ c.units.invariant.all;
      run = c.in_ok-add_unit.ensures.run;
      name = ap (λ r. r.now) c.in_ok-add_unit.ensures.name ∙ c.units.invariant.name;
    }

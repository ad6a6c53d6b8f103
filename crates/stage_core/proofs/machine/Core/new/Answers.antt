use Rattle.std.proofs.Common.{◌<◌, ℕ, length, ap, subst, sym, ◌∙◌, arith}
use Rattle.std.specs.List.{enumerate_from}
use Rattle.index_model.specs.Machine.{IsCut, plan_for, machine_start}
use Rattle.stage_core.specs.declared.build.Build.{Build}
use Rattle.stage_core.specs.Build.{subject_of}
use Rattle.stage_core.specs.Cut.{HasUnits}
use Rattle.stage_core.proofs.CoreLaws.{new_cut, new_state, new_is_sound}
use Rattle.stage_core.proofs.UnitCount.{few_units, units_are}
use Rattle.stage_core.proofs.machine.Core.new.Goals as goal

pub overflow_cast-units : goal.overflow_cast-units
overflow_cast-units c = let few = few_units c.requires.units.sections c.args.units.now c.requires.units.units_are in omega (arith, few)

pub start-requires : goal.start-requires
start-requires c = ap length (units_are c.args.file.now c.args.units.now c.requires.units)

pub invariant_of-result : goal.invariant_of-result
invariant_of-result c =
    let b : Build = c.in_ok-build.build in
    let has : HasUnits b.file.now c.args.units.now = rw c.in_ok-build.ensures.file c.requires.units in
    let some : 0 < b.runs = rw c.in_ok-build.ensures.runs c.requires.some in
    record {
      fits = c.in_ok-build.ensures.fits;
      reached = new_is_sound b c.args.units.now has some (c.in_ok-build.ensures.state ∙ ap (λ (n : ℕ). machine_start (plan_for n)) (sym c.in_ok-build.ensures.runs));
    }

pub returns-clause-cut : goal.returns-clause-cut
returns-clause-cut c =
    let b : Build = c.in_ok-build.build in
    let has : HasUnits b.file.now c.args.units.now = rw c.in_ok-build.ensures.file c.requires.units in
    let some : 0 < b.runs = rw c.in_ok-build.ensures.runs c.requires.some in
    subst (λ (n : ℕ). IsCut (enumerate_from 0 c.args.units.now) n (subject_of b).runs) c.in_ok-build.ensures.runs (new_cut b c.args.units.now has some)

pub returns-clause-state : goal.returns-clause-state
returns-clause-state c = new_state c.in_ok-build.build (c.in_ok-build.ensures.state ∙ ap (λ (n : ℕ). machine_start (plan_for n)) (sym c.in_ok-build.ensures.runs))

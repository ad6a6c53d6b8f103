use Rattle.std.proofs.Common.{◌≡◌, length, List, Some, None, Ok, sym, ap, subst, ◌∙◌, arith}
use Rattle.file_image.specs.Images.{Image}
use Rattle.index_model.specs.declared.unit.Unit.{Unit as UnitHeader}
use Rattle.index_model.specs.Faults.{program_of}
use Rattle.shard_build.specs.Found.{IsUnitAt}
use Rattle.shard_build.proofs.AgainUnits.{number_within}
use Rattle.gdb_items.proofs.file.FileItems.unit_of.Goals as goal

pub returns-then-unit-count-clause-unit : goal.returns-then-unit-count-clause-unit
returns-then-unit-count-clause-unit c =
    let o = c.args.offset in
    let file = ap (λ (e : Image). e.file) c.self.view_is in
    subst (λ f. IsUnitAt f o (Some c.in-Some.unit)) file (subst (IsUnitAt c.self.inside.image.now.file o) c.in-Some.is c.unit_at.ensures)

pub returns-else-unit-count-clause-unit : goal.returns-else-unit-count-clause-unit
returns-else-unit-count-clause-unit c p given w wc d dc at =
    let im = c.self.inside.image.now in
    let is : program_of im.file ≡ Ok p = ap program_of (ap (λ (e : Image). e.file) c.self.view_is) ∙ given in
    let found : Some c.in-Some.unit ≡ Some w.number = sym c.in-Some.is ∙ c.unit_at.ensures p is w wc d dc at in
    let within = number_within im c.units-count.ensures.of_file p is w wc in
    absurd (let same : c.in-Some.unit ≡ w.number = cc in omega (arith, within, same, c.if-unit-count.false, ap (λ (us : List UnitHeader). length us) c.units-count.ensures.value))

pub returns-in-None-clause-unit : goal.returns-in-None-clause-unit
returns-in-None-clause-unit c =
    let file = ap (λ (e : Image). e.file) c.self.view_is in
    subst (λ f. IsUnitAt f c.args.offset None) file (subst (IsUnitAt c.self.inside.image.now.file c.args.offset) c.in-None.is c.unit_at.ensures)

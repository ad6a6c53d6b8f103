use Rattle.std.proofs.Common.{◌≡◌, ℕ, length, List, sym, ap, subst, ◌∙◌, arith}
use Rattle.std.specs.Prelude.{slice_get, Some}
use Rattle.index_model.specs.declared.unit.Unit.{Unit as UnitHeader}
use Rattle.shard_build.specs.Kept.{target_by}
use Rattle.shard_build.proofs.AgainUnits.{number_within, target_is}
use Rattle.shard_build.proofs.entries.target.Goals as goal

pub returns-then-unit-units : goal.returns-then-unit-units
returns-then-unit-units c p is w wc number r reference =
    let im = c.args.image.now in
    let within = number_within im c.units.ensures.of_file p is w wc in
    absurd (omega (arith, within, number, ap (λ (us : List UnitHeader). length us) c.units.ensures.value))

pub returns : goal.returns
returns c p is w wc number r reference =
    let im = c.args.image.now in
    let h = c.of.result in
    let unit = subst (λ (n : ℕ). slice_get im.units n ≡ Some h.unit) (sym number) c.of.ensures.unit in
    c.target.ensures ∙ ap (target_by h.sections.now (h.number, h.unit)) reference ∙ target_is im c.units.ensures.of_file p is w wc h c.of.ensures.sections (c.of.ensures.number ∙ sym number) unit r

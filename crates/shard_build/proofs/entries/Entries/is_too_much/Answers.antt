use Rattle.std.proofs.Common.{sym, ap, subst, ◌∙◌}
use Rattle.std.specs.Prelude.{nat_eq}
use Rattle.std.proofs.lemmas.Option.{same_Some}
use Rattle.indexmap.specs.IndexMap.{get}
use Rattle.shard_build.specs.declared.units_again.UnitsAgain.{UnitsAgain}
use Rattle.shard_build.specs.Again.{AreOfUnits}
use Rattle.shard_build.proofs.entries.Entries.is_too_much.Goals as goal
use Rattle.shard_build.proofs.entries.Entries.is_too_much.Goals.{in-Some-take, in-None-take}

pub invariant_of-self : goal.invariant_of-self
invariant_of-self c =
    let file = c.self.inside.image.now.file in
    let before = c.self.invariant in
    let known : AreOfUnits file c.match-take.units.nodes = elim c.match-take.branch [
      | in-Some-take w ↦ subst (λ (u : UnitsAgain). AreOfUnits file u.nodes) (sym w.units-is) (before.2 _ (sym c.take.ensures.value ∙ w.in-Some-take.is))
      | in-None-take w ↦ subst (λ (u : UnitsAgain). AreOfUnits file u.nodes) (sym w.units-is) (w.new-units.ensures file)
    ] in
    let kept : AreOfUnits file c.is_too_much-answer.new.self.nodes = λ unit nodes e. known unit nodes (ap (λ m. get nat_eq m unit) (sym c.is_too_much-answer.ensures) ∙ e) in
    (before.0, before.1, λ x e. subst (λ (u : UnitsAgain). AreOfUnits file u.nodes) (same_Some c.is_too_much-answer.new.self x e) kept)

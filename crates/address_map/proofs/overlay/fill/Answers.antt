use Rattle.std.proofs.Common.{◌≡◌, ◌∷◌, ℕ, length, drop, ap, ◌∙◌, sym, subst, arith}
use Rattle.std.proofs.Math.Seq.{drop-length}
use Rattle.index_model.specs.declared.range.UnitRange.{UnitRange}
use Rattle.index_model.specs.Pieces.{IsPieces}
use Rattle.address_map.specs.Overlay.{EndsBy, IsLeft}
use Rattle.address_map.proofs.Lists.{drop_slice}
use Rattle.address_map.proofs.Filling.{at_first, part_behind, more, left, filled, filled_up}
use Rattle.address_map.proofs.UnitAt.{no_range}
use Rattle.address_map.proofs.overlay.fill.Goals as goal

pub others-init : goal.others-init
others-init c = at_first c.args.gap c.args.pieces.now.items c.args.others.now c.requires.gap c.requires.apart c.requires.behind

pub returns-then-gap-other-clause-left : goal.returns-then-gap-other-clause-left
returns-then-gap-other-clause-left c = subst (IsLeft c.args.gap.end c.args.others.now) (sym (drop_slice c.args.others.now c.others.count)) (left _ _ _ _ _ no_range c.requires.others c.others.invariant)

pub returns-then-gap-other-2-clause-left : goal.returns-then-gap-other-2-clause-left
returns-then-gap-other-2-clause-left c = subst (IsLeft c.args.gap.end c.args.others.now) (sym (drop_slice c.args.others.now c.others.count)) (left _ _ _ _ _ no_range c.requires.others c.others.invariant)

pub returns-clause-left : goal.returns-clause-left
returns-clause-left c =
    let all : c.others.count ≡ length c.args.others.now = omega arith in
    subst (IsLeft c.args.gap.end c.args.others.now) (ap (λ (k : ℕ). drop k c.args.others.now) all ∙ drop-length c.args.others.now) (left _ _ _ _ _ no_range c.requires.others c.others.invariant)

pub returns-then-gap-other-clause-filled : goal.returns-then-gap-other-clause-filled
returns-then-gap-other-clause-filled c = filled _ _ _ _ _ no_range c.requires.others c.others.invariant (λ _. c.if-gap-other.true)

pub returns-clause-filled : goal.returns-clause-filled
returns-clause-filled c = filled _ _ _ _ _ no_range c.requires.others c.others.invariant (λ lt. absurd (omega (arith, lt)))

pub add-requires-clause-behind : goal.add-requires-clause-behind
add-requires-clause-behind c =
    subst (λ (p : UnitRange). EndsBy p.range.low c.others.pieces.items) (sym c.part.ensures) (part_behind _ _ _ _ _ no_range c.requires.others c.others.invariant c.others-test.true)

pub others-preserved : goal.others-preserved
others-preserved c =
    let added = subst (λ (p : UnitRange). IsPieces (p ∷ c.others.pieces.items) c.add.new.pieces.items) c.part.ensures c.in_ok-add.ensures in
    more _ _ _ _ _ no_range c.requires.others c.others.invariant _ c.others-test.true added c.if-gap-other-2.false

pub returns-then-gap-other-2-clause-filled : goal.returns-then-gap-other-2-clause-filled
returns-then-gap-other-2-clause-filled c =
    let added = subst (λ (p : UnitRange). IsPieces (p ∷ c.others.pieces.items) c.add.new.pieces.items) c.part.ensures c.in_ok-add.ensures in
    filled_up _ _ _ _ _ no_range c.requires.others c.others.invariant _ c.others-test.true added c.if-gap-other-2.true

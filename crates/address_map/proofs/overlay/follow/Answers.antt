use Rattle.std.proofs.Common.{◌≡◌, ◌<◌, ◌∷◌, ◌∙◌, ℕ, length, get_or, max, sym, subst, arith, List}
use Rattle.index_model.specs.declared.range.UnitRange.{UnitRange}
use Rattle.index_model.specs.Pieces.{IsPieces}
use Rattle.address_map.specs.Overlay.{EndsBy, part_of}
use Rattle.address_map.proofs.Filling.{at_first, part_behind, more, own_end, below_top, gap_of, followed, top}
use Rattle.address_map.proofs.UnitAt.{no_range}
use Rattle.address_map.proofs.overlay.follow.Goals as goal

-- the part of another from the address on, up to all ends
part_is : (others : List UnitRange) (k from : ℕ) → k < length others → part_of (get_or others k no_range) (record { low = from; end = (get_or others k no_range).range.end }) ≡ part_of (get_or others k no_range) (gap_of from others)
part_is others k from lt = own_end (get_or others k no_range) from (max from (top others)) (let h = below_top others k no_range lt in omega (arith, h))

pub others-init : goal.others-init
others-init c = at_first _ _ c.args.others.now (omega arith) c.requires.apart c.requires.behind

pub add-requires-clause-behind : goal.add-requires-clause-behind
add-requires-clause-behind c =
    let e = c.part.ensures ∙ part_is c.args.others.now c.others.other-index c.args.from c.others-test.true in
    subst (λ (p : UnitRange). EndsBy p.range.low c.others.pieces.items) (sym e) (part_behind _ _ _ _ _ no_range c.requires.others c.others.invariant c.others-test.true)

pub others-preserved : goal.others-preserved
others-preserved c =
    let e = c.part.ensures ∙ part_is c.args.others.now c.others.other-index c.args.from c.others-test.true in
    let added = subst (λ (p : UnitRange). IsPieces (p ∷ c.others.pieces.items) c.add.new.pieces.items) e c.in_ok-add.ensures in
    let h = below_top c.args.others.now c.others.other-index no_range c.others-test.true in
    more _ _ _ _ _ no_range c.requires.others c.others.invariant _ c.others-test.true added (omega (arith, h))

pub returns : goal.returns
returns c = followed c.args.from _ c.args.others.now _ _ c.others-test.false c.requires.others c.others.invariant

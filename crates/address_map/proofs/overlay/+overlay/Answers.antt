use Rattle.std.proofs.Common.{◌++◌, ◌/◌, List, length, subst, ap, ◌∙◌, Vec, Global, Result, Ok, Err, IfOk}
use Rattle.ix_base.specs.declared.fault.NoMemory.{NoMemory}
use Rattle.index_model.specs.declared.range.UnitRange.{UnitRange}
use Rattle.index_model.specs.Pieces.{IsPieces}
use Rattle.address_map.proofs.Halves.{of_halves}
use Rattle.address_map.proofs.overlay.+overlay.Goals as goal

if_ok : (r : Result (Vec UnitRange Global) NoMemory) (xs ys : List UnitRange) → ((ps : List UnitRange) → IsPieces xs ps → IsPieces ys ps) → IfOk r (λ v. IsPieces xs v.items) → IfOk r (λ v. IsPieces ys v.items)
if_ok (Ok v) xs ys f h = f v.items h
if_ok (Err e) xs ys f h = h

pub returns : goal.returns
returns t c =
    let first = subst (λ (xs : List UnitRange). IsPieces xs c.in_ok-first.first.items) c.split_at.ensures.front c.in_ok-first.ensures in
    let second = subst (λ (xs : List UnitRange). IsPieces xs c.in_ok-second.second.items) c.split_at.ensures.back c.in_ok-second.ensures in
    let lists = ap (λ (xs : List UnitRange). xs ++ c.deref-2.result.now) c.deref.ensures.value ∙ ap (λ (ys : List UnitRange). c.in_ok-first.first.items ++ ys) c.deref-2.ensures.value in
    if_ok c.over.result (c.deref.result.now ++ c.deref-2.result.now) c.args.ranges.now
    (λ ps laid. of_halves c.args.ranges.now (length c.args.ranges.now / 2) _ _ ps first second (subst (λ (xs : List UnitRange). IsPieces xs ps) lists laid)) c.over.ensures

use Rattle.std.proofs.Common.{◌≡◌, suc, ◌-◌, ◌∷◌, ◌++◌, [], length, List, ap, sym, ◌∙◌, subst, refl, arith}
use Rattle.std.specs.Vec.{vec_len, vec_items}
use Rattle.index_model.specs.declared.range.UnitRange.{UnitRange}
use Rattle.index_model.specs.Pieces.{IsPieces}
use Rattle.address_map.proofs.Adding.{IsOther, is_other, none_other, last_index, no_item, set_same, kept, joined, pushed}
use Rattle.address_map.proofs.overlay.add.Goals as goal
use Rattle.address_map.proofs.overlay.add.Goals.{in-Some+else-last-piece, else-last-piece-via-then-last-piece+else-last-piece-2, else-last-piece-via-else-last-piece, in_default}

pub returns-then-piece : goal.returns-then-piece
returns-then-piece c = kept c.args.piece c.args.pieces.now.items (omega arith) c.requires.apart

pub returns-then-last-piece-2 : goal.returns-then-last-piece-2
returns-then-last-piece-2 c =
    joined c.in-Some.last.now c.args.piece c.if-last-piece-2.true c.if-last-piece.true (omega arith) c.args.pieces.now.items (vec_len c.args.pieces.now - 1) (last_index _ _ c.args.pieces.now.ok.0 (c.in-Some.ensures.variant.0 refl)) c.in-Some.ensures.value c.requires.apart c.requires.behind

pub returns : goal.returns
returns c =
    let same : c.match-last_mut.pieces.items ≡ c.args.pieces.now.items = elim c.match-last_mut.branch [
      | in-Some+else-last-piece w ↦ (elim w.else-last-piece.branch [
        | else-last-piece-via-then-last-piece+else-last-piece-2 v ↦ (ap vec_items (w.pieces-is ∙ v.pieces-is) ∙ set_same c.args.pieces.now.items (vec_len c.args.pieces.now - 1) w.in-Some.last.now w.in-Some.ensures.value)
        | else-last-piece-via-else-last-piece v ↦ (ap vec_items (w.pieces-is ∙ v.pieces-is) ∙ set_same c.args.pieces.now.items (vec_len c.args.pieces.now - 1) w.in-Some.last.now w.in-Some.ensures.value)
      ])
      | in_default w ↦ (ap vec_items w.pieces-is)
    ] in
    let other : IsOther c.args.pieces.now.items c.args.piece = elim c.match-last_mut.branch [
      | in-Some+else-last-piece w ↦ (
          let len : suc (vec_len c.args.pieces.now - 1) ≡ length c.args.pieces.now.items = last_index _ _ c.args.pieces.now.ok.0 (w.in-Some.ensures.variant.0 refl) in
          elim w.else-last-piece.branch [
            | else-last-piece-via-then-last-piece+else-last-piece-2 v ↦ is_other c.args.pieces.now.items (vec_len c.args.pieces.now - 1) w.in-Some.last.now c.args.piece len w.in-Some.ensures.value (λ touch one. v.if-last-piece-2.false touch)
            | else-last-piece-via-else-last-piece v ↦ is_other c.args.pieces.now.items (vec_len c.args.pieces.now - 1) w.in-Some.last.now c.args.piece len w.in-Some.ensures.value (λ touch one. v.if-last-piece.false one)
          ])
      | in_default w ↦ none_other c.args.pieces.now.items c.args.piece (no_item _ _ c.args.pieces.now.ok.0 w.in_default.ensures.variant.1)
    ] in
    subst (IsPieces (c.args.piece ∷ c.args.pieces.now.items)) (ap (λ (xs : List UnitRange). xs ++ c.args.piece ∷ []) (sym same) ∙ sym c.in_ok-push.ensures.items) (pushed c.args.pieces.now.items c.args.piece c.requires.apart c.requires.behind c.if-piece.false other)

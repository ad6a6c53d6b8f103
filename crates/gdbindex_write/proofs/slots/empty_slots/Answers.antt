use Rattle.std.proofs.Common.{◌≡◌, ℕ, List, [], ◌∷◌, ◌++◌, Option, None, replicate, ap, ◌∙◌, arith}
use Rattle.std.proofs.lemmas.List.{replicate_more}
use Rattle.gdbindex_write.proofs.slots.empty_slots.Goals as goal

pub loop-filled-init : goal.loop-filled-init
loop-filled-init c = c.in_ok-slots.ensures.items

pub loop-filled-preserved : goal.loop-filled-preserved
loop-filled-preserved c = c.in_ok-push.ensures.items ∙ ap (λ (w : List (Option ℕ)). w ++ None ∷ []) c.loop-filled.invariant ∙ replicate_more c.loop-filled.filled None

pub returns : goal.returns
returns c =
    let all : c.loop-filled.filled ≡ c.args.count = omega arith in
    c.loop-filled.invariant ∙ ap (λ (n : ℕ). replicate n None) all

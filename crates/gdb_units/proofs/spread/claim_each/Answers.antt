use Rattle.std.proofs.Common.{ℕ, Vec, Global, sym, ap, ◌∙◌}
use Rattle.gdb_units.proofs.ClaimLaws.{claimed_one, skipped_one}
use Rattle.gdb_units.proofs.spread.claim_each.Goals as goal
use Rattle.gdb_units.proofs.spread.claim_each.Goals.{then-claim+in_ok-push, else-claim}

pub loop-unit-preserved : goal.loop-unit-preserved
loop-unit-preserved c =
    let us = c.args.units.now in
    let n = c.loop-unit.unit-index in
    let lt = c.loop-unit-test.true in
    let owner = c.args.owner in
    let old = c.args.owners.now in
    let waited = c.args.waiting.now.items in
    let mid = c.loop-unit.owners in
    let waits = c.loop-unit.waiting.items in
    elim c.if-claim.branch [
      | then-claim+in_ok-push w ↦ claimed_one us n _ owner old waited mid waits c.claim.new.owners c.if-claim.waiting.items lt c.loop-unit.invariant c.claim.ensures.owners
          (sym c.claim.ensures.free ∙ w.if-claim.true) (ap (λ (v : Vec ℕ Global). v.items) w.waiting-is ∙ w.in_ok-push.ensures.items)
      | else-claim w ↦ skipped_one us n _ owner old waited mid waits c.claim.new.owners c.if-claim.waiting.items lt c.loop-unit.invariant c.claim.ensures.owners
          (sym c.claim.ensures.free ∙ w.if-claim.false) (ap (λ (v : Vec ℕ Global). v.items) w.waiting-is)
    ]

use Rattle.std.proofs.Common.{ℕ, ◌≤◌, ◌*◌, ap, sym, subst, ◌∙◌, All, arith}
use Rattle.std.proofs.lemmas.List.Elements.{All-push}
use Rattle.race_command.specs.Runners.{IsFresh}
use Rattle.race_command.specs.declared.transcript.TheConstants.{MAX_RACE_BYTES}
use Rattle.race_command.proofs.rounds.gather.Goals as goal

pub loop-reader-preserved : goal.loop-reader-preserved
loop-reader-preserved c =
    let parted = c.reader-reader.ensures.parted in
    let made = c.in_ok-new.ensures.reader ∙ c.reader-reader.ensures.reader in
    let fits : 2 * c.args.readers * c.in_ok-new.field-0.share ≤ MAX_RACE_BYTES = subst (λ (n : ℕ). 2 * c.args.readers * n ≤ MAX_RACE_BYTES) (sym c.in_ok-new.ensures.share) c.share_of-share.ensures in
    record {
      own = (ap (λ p. p.id) parted ∙ c.loop-reader.invariant.own.0, ap (λ p. p.subject) parted ∙ c.loop-reader.invariant.own.1);
      idle = ap (λ p. p.holding) parted ∙ c.loop-reader.invariant.idle;
      floor = ap (λ p. p.floor) parted ∙ c.loop-reader.invariant.floor;
      count = omega (arith, c.in_ok-push.ensures.len, c.loop-reader.invariant.count);
      fresh = subst (All (IsFresh c.args.board.now c.args.pass.now.floor)) (sym c.in_ok-push.ensures.items)
          (All-push (IsFresh c.args.board.now c.args.pass.now.floor) c.loop-reader.runners.items c.in_ok-new.field-0 c.loop-reader.invariant.fresh (record { board_is = ap (λ r. r.board) made; floor_is = ap (λ r. r.pass.floor) made ∙ c.loop-reader.invariant.floor }));
      shares = subst (All (λ r. 2 * c.args.readers * r.share ≤ MAX_RACE_BYTES)) (sym c.in_ok-push.ensures.items)
          (All-push (λ r. 2 * c.args.readers * r.share ≤ MAX_RACE_BYTES) c.loop-reader.runners.items c.in_ok-new.field-0 c.loop-reader.invariant.shares fits);
    }

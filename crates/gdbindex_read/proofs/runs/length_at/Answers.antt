use Rattle.std.proofs.Common.{◌≡◌, ℕ, ◌+◌, true, ap, sym, subst, ◌∙◌, arith}
use Rattle.std.specs.Prelude.{nat_lt}
use Rattle.index_model.specs.GdbIndexRead.{unit_in}
use Rattle.index_model.specs.Layout.{field}
use Rattle.gdbindex_read.specs.Runs.{IsRun}
use Rattle.gdbindex_read.proofs.RunLaws.{longer, shorter}
use Rattle.gdbindex_read.proofs.runs.length_at.Goals as goal

pub returns : goal.returns
returns c =
    let pool = c.args.pool.now in
    let place = c.args.place in
    let own : nat_lt (unit_in (field 4 place pool)) c.args.units ≡ true = ap (λ (e : ℕ). nat_lt (unit_in e) c.args.units) (sym c.u32_at.ensures) ∙ sym c.is_of.ensures ∙ c.if-not-is_of.false in
    let run = subst (IsRun pool c.args.units (place + 4)) (sym c.run_at.ensures) (c.requires (place + 4)) in
    shorter pool c.args.units place (c.run_at.result + 1) c.saturating_add.result (omega (arith, c.saturating_add.ensures)) (longer pool c.args.units place c.run_at.result own run)

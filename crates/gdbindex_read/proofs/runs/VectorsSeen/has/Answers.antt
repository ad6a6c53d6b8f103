use Rattle.std.proofs.Common.{sym, ap, subst, ◌∙◌, ◌+◌}
use Rattle.gdbindex_read.specs.Pool.{are_of_units}
use Rattle.gdbindex_read.specs.Runs.{IsRun}
use Rattle.gdbindex_read.proofs.RunLaws.{vector_in_run}
use Rattle.gdbindex_read.proofs.runs.VectorsSeen.has.Goals as goal

pub returns-then-is_in_run-clause-value : goal.returns-then-is_in_run-clause-value
returns-then-is_in_run-clause-value c =
    let pool = c.args.pool.now in
    let elements = c.in-Some.elements in
    let run = subst (IsRun pool c.args.units (c.args.offset + 4)) c.len-count.ensures (c.is_in_run.ensures.run c.if-is_in_run.true) in
    c.if-is_in_run.true ∙ sym (ap (are_of_units c.args.units) (sym c.in-Some.ensures) ∙ vector_in_run pool c.args.units c.args.offset elements c.in-Some.ensures run)

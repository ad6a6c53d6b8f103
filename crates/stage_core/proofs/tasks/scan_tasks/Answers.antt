use Rattle.std.proofs.Common.{◌-◌, ◌/◌, refl, sym, ap, arith}
use Rattle.stage_core.proofs.CutLaws.{cut_more, left_part}
use Rattle.stage_core.proofs.tasks.scan_tasks.Goals as goal

pub loop-run-preserved : goal.loop-run-preserved
loop-run-preserved c =
    let first = c.loop-run.first in
    let left = c.args.runs - c.loop-run.run in
    record {
      few = left_part c.args.units first left c.loop-run.invariant.few;
      so_far = λ us all.
          rw c.in_ok-push_back.ensures.items
          (cut_more us c.args.runs c.loop-run.run first ((c.args.units - first) / left) c.loop-run.tasks.items _ (c.loop-run.invariant.so_far us all) c.loop-run-test.true (omega (arith, all, c.loop-run.invariant.few)) (ap (λ n. (n - first) / left) (sym all)) refl);
    }

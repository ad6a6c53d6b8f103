use Rattle.std.proofs.Common.{flat_map}
use Rattle.gdb_index.specs.Ranges.{AreListed}
use Rattle.gdb_index.proofs.RangeLaws.{runs_listed}
use Rattle.gdb_index.proofs.halves.+halves.Goals as goal

pub runs_of_halves-returns : goal.runs_of_halves-returns
runs_of_halves-returns g t c =
    let f = c.args.file.now.file in
    let low = c.in_ok-runs.runs.items in
    let high = c.in_ok-behind.behind.items in
    let front : AreListed f c.args.first c.args.middle (flat_map (λ run. run) low) = rw c.in_ok-runs.was at c.join-front.ensures.first in
    let back : AreListed f c.args.middle c.args.end (flat_map (λ run. run) high) = rw c.in_ok-behind.was at c.join-front.ensures.second in
    runs_listed f c.args.first c.args.middle c.args.end low high _ c.in_ok-append.ensures.items front back

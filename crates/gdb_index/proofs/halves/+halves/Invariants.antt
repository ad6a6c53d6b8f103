use Rattle.std.proofs.Common.{◌+◌, ◌*◌}
use Rattle.gdb_index.proofs.halves.+halves.Given as goal

abbrev pub decreases-runs_by_halves : goal.decreases-runs_by_halves
decreases-runs_by_halves g l = 4 * l.halvings + 3

abbrev pub decreases-runs_of_halves : goal.decreases-runs_of_halves
decreases-runs_of_halves g l = 4 * l.halvings + 6

abbrev pub decreases-runs_of_halves-front : goal.decreases-runs_of_halves-front
decreases-runs_of_halves-front g l = 4 * l.halvings + 5

abbrev pub decreases-runs_of_halves-back : goal.decreases-runs_of_halves-back
decreases-runs_of_halves-back g l = 4 * l.halvings + 5

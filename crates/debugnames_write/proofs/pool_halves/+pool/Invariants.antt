use Rattle.std.proofs.Common.{◌+◌, ◌*◌}
use Rattle.debugnames_write.proofs.pool_halves.+pool.Given as goal

abbrev pub decreases-pool_by_halves : goal.decreases-pool_by_halves
decreases-pool_by_halves g l = 4 * l.halvings + 3

abbrev pub decreases-pool_of_halves : goal.decreases-pool_of_halves
decreases-pool_of_halves g l = 4 * l.halvings + 6

abbrev pub decreases-pool_of_halves-front : goal.decreases-pool_of_halves-front
decreases-pool_of_halves-front g l = 4 * l.halvings + 5

abbrev pub decreases-pool_of_halves-back : goal.decreases-pool_of_halves-back
decreases-pool_of_halves-back g l = 4 * l.halvings + 5

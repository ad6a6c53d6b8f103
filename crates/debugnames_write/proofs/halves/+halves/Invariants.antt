use Rattle.std.proofs.Common.{◌+◌, ◌*◌}
use Rattle.debugnames_write.proofs.halves.+halves.Given as goal

abbrev pub decreases-items_by_halves : goal.decreases-items_by_halves
decreases-items_by_halves g l = 4 * l.halvings + 3

abbrev pub decreases-items_of_halves : goal.decreases-items_of_halves
decreases-items_of_halves g l = 4 * l.halvings + 6

abbrev pub decreases-items_of_halves-front : goal.decreases-items_of_halves-front
decreases-items_of_halves-front g l = 4 * l.halvings + 5

abbrev pub decreases-items_of_halves-back : goal.decreases-items_of_halves-back
decreases-items_of_halves-back g l = 4 * l.halvings + 5

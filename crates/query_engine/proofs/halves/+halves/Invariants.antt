use Rattle.std.proofs.Common.{◌+◌, ◌*◌}
use Rattle.query_engine.proofs.halves.+halves.Given as goal

abbrev pub decreases-marks_by_halves : goal.decreases-marks_by_halves
decreases-marks_by_halves g l = 4 * l.halvings + 3

abbrev pub decreases-marks_of_halves : goal.decreases-marks_of_halves
decreases-marks_of_halves g l = 4 * l.halvings + 6

abbrev pub decreases-marks_of_halves-front : goal.decreases-marks_of_halves-front
decreases-marks_of_halves-front g l = 4 * l.halvings + 5

abbrev pub decreases-marks_of_halves-back : goal.decreases-marks_of_halves-back
decreases-marks_of_halves-back g l = 4 * l.halvings + 5

use Rattle.std.proofs.Common.{◌+◌, ◌*◌, length}
use Rattle.gdb_units.specs.Imported.{targets_in}
use Rattle.gdb_units.specs.Spread.{count_free}
use Rattle.gdb_units.proofs.SpreadLaws.{Spreading}
use Rattle.gdb_units.proofs.spread.spread.Given as goal

abbrev pub invariant-loop-unit : goal.invariant-loop-unit
invariant-loop-unit l = Spreading (targets_in l.targets) l.owner l.fn.owners l.owners l.waiting.items

-- each unit that has no owner waits once at most
abbrev pub decreases-loop-unit : goal.decreases-loop-unit
decreases-loop-unit l = 2 * count_free l.owners + length l.waiting.items

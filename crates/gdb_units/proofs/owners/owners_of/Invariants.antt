use Rattle.gdb_units.specs.Imported.{targets_in}
use Rattle.gdb_units.specs.Spread.{OwnedBelow}
use Rattle.gdb_units.proofs.owners.owners_of.Given as goal

-- each unit has the first of the owners so far
abbrev pub invariant-loop-number : goal.invariant-loop-number
invariant-loop-number l = OwnedBelow l.number l.units (targets_in l.targets) l.owners.items

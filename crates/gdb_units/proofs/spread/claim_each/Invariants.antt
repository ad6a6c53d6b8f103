use Rattle.std.proofs.Common.{take}
use Rattle.gdb_units.specs.Spread.{Claims}
use Rattle.gdb_units.proofs.spread.claim_each.Given as goal

abbrev pub invariant-loop-unit : goal.invariant-loop-unit
invariant-loop-unit l = Claims (take l.unit-index l.units) l.owner l.fn.owners l.fn.waiting.items l.owners l.waiting.items

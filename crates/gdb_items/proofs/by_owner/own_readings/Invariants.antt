use Rattle.std.proofs.Common.{◌≡◌, ◌++◌, drop}
use Rattle.std.specs.Prelude.{map}
use Rattle.std.specs.List.{enumerate_from}
use Rattle.gdb_items.specs.Readings.{own_reading}
use Rattle.gdb_items.proofs.by_owner.own_readings.Given as goal

-- how the units so far are read, and those that are left
abbrev pub invariant-loop-number : goal.invariant-loop-number
invariant-loop-number l = l.readings.items ++ map own_reading (enumerate_from l.number (drop l.number l.classes)) ≡ map own_reading (enumerate_from 0 l.classes)

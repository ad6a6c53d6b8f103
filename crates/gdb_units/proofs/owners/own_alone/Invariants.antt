use Rattle.std.proofs.Common.{◌≡◌, ◌++◌, drop}
use Rattle.std.specs.List.{enumerate_from}
use Rattle.gdb_units.specs.Spread.{alone_of, own_alone}
use Rattle.std.specs.Prelude.{map}
use Rattle.gdb_units.proofs.owners.own_alone.Given as goal

-- the owners so far, and those of the units that are left
abbrev pub invariant-loop-number : goal.invariant-loop-number
invariant-loop-number l = l.owners.items ++ map alone_of (enumerate_from l.number (drop l.number l.units)) ≡ own_alone l.units

use Rattle.std.proofs.Common.{◌≡◌, ◌++◌, drop}
use Rattle.std.specs.Prelude.{filter_map}
use Rattle.std.specs.List.{enumerate_from}
use Rattle.gdb_units.specs.Imported.{partial_root, partial_roots}
use Rattle.gdb_units.proofs.partial_roots.partial_roots.Given as goal

-- what is found, and what comes of the units that are left
abbrev pub invariant-loop-number : goal.invariant-loop-number
invariant-loop-number l = l.found.items ++ filter_map partial_root (enumerate_from l.number (drop l.number l.units)) ≡ partial_roots l.units

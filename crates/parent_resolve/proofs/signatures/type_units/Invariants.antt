use Rattle.std.proofs.Common.{◌≡◌, ◌++◌, drop}
use Rattle.std.specs.Prelude.{filter_map}
use Rattle.std.specs.List.{enumerate_from}
use Rattle.parent_resolve.specs.Signed.{as_type_unit, type_units}
use Rattle.parent_resolve.proofs.signatures.type_units.Given as goal

-- what is found, and what comes of the units that are left
abbrev pub invariant-loop-number : goal.invariant-loop-number
invariant-loop-number l = l.found.items ++ filter_map as_type_unit (enumerate_from l.number (drop l.number l.units)) ≡ type_units l.units

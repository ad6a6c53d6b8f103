use Rattle.std.proofs.Common.{◌≡◌, ◌<◌, ◌++◌, ℕ, drop, length}
use Rattle.gdb_units.specs.Imported.{RootsRise, targets_in, targets_of}
use Rattle.gdb_units.proofs.imported.imported.Given as goal

-- what was added of each unit, and what comes of the imports that are left
abbrev pub invariant-loop-import : goal.invariant-loop-import
invariant-loop-import l = record {
  long : length l.targets.items ≡ length l.units;
  added : RootsRise l.units → (u : ℕ) → u < length l.units → targets_in l.targets.items u ++ targets_of l.units u (drop l.import-index l.imports) ≡ targets_of l.units u l.imports;
}

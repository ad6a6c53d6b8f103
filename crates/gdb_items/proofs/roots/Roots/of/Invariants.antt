use Rattle.std.proofs.Common.{◌≡◌}
use Rattle.std.specs.Prelude.{take}
use Rattle.gdb_entries.specs.Files.{ForProgram}
use Rattle.gdb_items.proofs.RootsLaws.{AreRootsTo}
use Rattle.gdb_items.proofs.roots.Roots.of.Given as goal

-- the roots of the units so far were read
abbrev pub invariant-loop-number : goal.invariant-loop-number
invariant-loop-number l = record {
  read : ForProgram l.image.file (λ p. AreRootsTo p (take l.number p.walks) l.units.items l.classes.items);
  same : l.tables ≡ l.fn.tables;
}

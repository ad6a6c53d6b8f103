use Rattle.std.proofs.Common.{◌≡◌, ℕ}
use Rattle.gdb_index.specs.Ranges.{AreListed}
use Rattle.gdb_index.proofs.part.list_group.Given as goal

-- the file is the same, and the entries of the units so far were added
abbrev pub invariant-loop-unit : goal.invariant-loop-unit
invariant-loop-unit l = record {
  same : l.names ≡ l.file;
  added : (start : ℕ) → AreListed l.file.file start l.first l.fn.entries.items → AreListed l.file.file start l.unit l.entries.items;
}

use Rattle.std.proofs.Common.{◌≡◌}
use Rattle.std.specs.Prelude.{take, flat_map}
use Rattle.index_model.specs.ShardParts.{imports_in}
use Rattle.gdb_entries.specs.Files.{ForProgram}
use Rattle.gdb_items.proofs.imports.imports.Given as goal

-- the imports of the units so far were read
abbrev pub invariant-loop-number : goal.invariant-loop-number
invariant-loop-number l = record {
  read : ForProgram l.image.file (λ p. l.imports.items ≡ flat_map (imports_in p.sections) (take l.number p.walks));
  same : l.tables ≡ l.fn.tables;
}

use Rattle.std.proofs.Common.{◌≡◌, List, drop}
use Rattle.std.specs.List.{AllZip}
use Rattle.index_model.specs.Program.{Located, Walked}
use Rattle.gdb_entries.specs.Files.{ForProgram}
use Rattle.gdb_index.specs.Items.{IsLookedAt}
use Rattle.gdb_index.proofs.UnitLaws.{IsListedTo}
use Rattle.gdb_index.proofs.unit.list_items.Given as goal

-- the file is the same, and the entries of the items so far were added
abbrev pub invariant-loop-item : goal.invariant-loop-item
invariant-loop-item l = record {
  same : l.names ≡ l.fn.names;
  lists : ForProgram l.fn.names.file (λ p. (owner : Walked) (ds : List Located) → l.fn.reading.owner ≡ owner.number → AllZip (IsLookedAt p l.fn.reading.class) l.items ds →
      IsListedTo p owner l.fn.reading.class ds l.fn.entries.items l.entries.items (drop l.item-index l.items));
}

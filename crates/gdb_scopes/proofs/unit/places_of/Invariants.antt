use Rattle.std.proofs.Common.{◌≡◌, Some, drop}
use Rattle.std.specs.Prelude.{Contains}
use Rattle.std.specs.List.{AllZip}
use Rattle.index_model.specs.Program.{Walked}
use Rattle.gdb_entries.specs.Owners.{class_read}
use Rattle.gdb_entries.specs.Files.{ForProgram}
use Rattle.gdb_items.specs.Items.{kept_of, IsItemOf}
use Rattle.gdb_items.specs.declared.which.Which.{Which}
use Rattle.gdb_scopes.proofs.WalkLaws.{Goes}
use Rattle.gdb_scopes.proofs.unit.places_of.Given as goal

-- the file is the same, and for each unit of which these items were read the places so far are its kept items' so far
abbrev pub invariant-loop-item : goal.invariant-loop-item
invariant-loop-item l = record {
  same : l.file ≡ l.fn.file;
  goes : ForProgram l.fn.file.file (λ p. (w : Walked) (which : Which) → Contains p.walks w → class_read p w ≡ Some l.fn.class → AllZip (IsItemOf p.sections) l.items (kept_of which w) →
      Goes p l.fn.class w which l.reached l.places.items (drop l.item-index l.items));
}

use Rattle.std.proofs.Common.{◌≡◌, ◌+◌, ◌-◌, ◌≤◌, vec_len}
use Rattle.outside.specs.Files.{SameFiles}
use Rattle.command_base.specs.FilesRead.{HoldsFirst}
use Rattle.command_base.proofs.file.read_file.Given as goal

-- the bytes so far are the first of the file, and the shelf holds what it held
abbrev pub invariant-loop-bytes : goal.invariant-loop-bytes
invariant-loop-bytes g l = record {
  first : HoldsFirst (g.F.Shelf.files l.fn.shelf) l.name l.bytes.items;
  kept : SameFiles (g.F.Shelf.files l.fn.shelf) (g.F.Shelf.files l.shelf);
  reads : g.F.Shelf.read_faults l.fn.shelf ≤ g.F.Shelf.read_faults l.shelf;
  stores : g.F.Shelf.store_faults l.shelf ≡ g.F.Shelf.store_faults l.fn.shelf;
  kept_reads : g.F.Shelf.kept_faults l.shelf ≡ g.F.Shelf.kept_faults l.fn.shelf;
  bounded : vec_len l.bytes ≤ l.limit + 1;
  room : vec_len l.piece ≡ 65536;
}

abbrev pub decreases-loop-bytes : goal.decreases-loop-bytes
decreases-loop-bytes g l = l.limit + 1 - vec_len l.bytes

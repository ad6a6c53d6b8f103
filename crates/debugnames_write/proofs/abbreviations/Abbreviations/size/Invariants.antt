use Rattle.std.proofs.Common.{◌≡◌, ◌+◌, ◌≤◌, length, take}
use Rattle.std.specs.Prelude.{flat_map}
use Rattle.std.specs.List.{enumerate_from}
use Rattle.debugnames_write.proofs.TableLaws.{row_bytes}
use Rattle.debugnames_write.proofs.abbreviations.Abbreviations.size.Given as goal

abbrev pub invariant-loop-place : goal.invariant-loop-place
invariant-loop-place l = record {
  size : l.size ≡ length (flat_map row_bytes (enumerate_from 0 (take l.place l.row-items))) + 1;
  fits : l.size ≤ 4294967283;
}

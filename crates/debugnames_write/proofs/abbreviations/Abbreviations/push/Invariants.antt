use Rattle.std.proofs.Common.{◌≡◌, ◌++◌, take}
use Rattle.std.specs.Prelude.{flat_map}
use Rattle.std.specs.List.{enumerate_from}
use Rattle.debugnames_write.proofs.TableLaws.{row_bytes}
use Rattle.debugnames_write.proofs.abbreviations.Abbreviations.push.Given as goal

abbrev pub invariant-loop-place : goal.invariant-loop-place
invariant-loop-place l = l.out.items ≡ l.initial.out.items ++ flat_map row_bytes (enumerate_from 0 (take l.place l.row-items))

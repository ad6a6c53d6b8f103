use Rattle.std.proofs.Common.{◌≡◌, ◌+◌, ◌<◌, length, take}
use Rattle.std.specs.Prelude.{flat_map}
use Rattle.gdb_index.proofs.few.are_few.Given as goal

-- the runs so far have the entries that were taken off
abbrev pub invariant-loop-run : goal.invariant-loop-run
invariant-loop-run l = record {
  some : 0 < l.left;
  taken : l.left + length (flat_map (λ run. run) (take l.run-index l.runs)) ≡ 4294967296;
}

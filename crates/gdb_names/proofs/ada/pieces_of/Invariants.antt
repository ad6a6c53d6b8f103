use Rattle.std.proofs.Common.{◌≡◌, ◌≤◌, ◌++◌, length, take, drop}
use Rattle.gdb_names.specs.Seen.{contents}
use Rattle.gdb_names.proofs.AdaLaws.{pieces}
use Rattle.gdb_names.proofs.ada.pieces_of.Given as goal

-- the pieces of what is left, and what was looked at, which none of could be decoded, are all pieces
abbrev pub invariant-loop-at : goal.invariant-loop-at
invariant-loop-at l = record {
  within : l.at ≤ length l.components;
  left : pieces (contents (take l.at l.components)) ++ contents (drop l.at l.components) ≡ pieces (contents l.components);
}

abbrev pub decreases-loop-at : goal.decreases-loop-at
decreases-loop-at l = l.at

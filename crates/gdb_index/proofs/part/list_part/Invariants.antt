use Rattle.std.proofs.Common.{◌≤◌, ◌-◌}
use Rattle.gdb_index.specs.Ranges.{AreListed}
use Rattle.gdb_index.proofs.part.list_part.Given as goal

-- the units so far are listed
abbrev pub invariant-loop-next : goal.invariant-loop-next
invariant-loop-next l = record {
  below : l.next ≤ l.end;
  listed : AreListed l.file.file l.first l.next l.entries.items;
}

abbrev pub decreases-loop-next : goal.decreases-loop-next
decreases-loop-next l = l.end - l.next

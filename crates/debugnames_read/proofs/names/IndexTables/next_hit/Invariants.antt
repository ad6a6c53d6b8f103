use Rattle.std.proofs.Common.{◌≡◌, ◌-◌}
use Rattle.debugnames_read.specs.Hits.{hits_left, IsLeft}
use Rattle.debugnames_read.proofs.names.IndexTables.next_hit.Given as goal

-- what is left is what was left
abbrev pub invariant-names : goal.invariant-names
invariant-names l = record {
  value : hits_left l.self l.sought.name.now l.left ≡ hits_left l.self l.sought.name.now l.fn.left;
  left : IsLeft l.self l.left;
}

-- there are fewer names each time
abbrev pub decreases-names : goal.decreases-names
decreases-names l = l.left.names.to - l.left.names.from

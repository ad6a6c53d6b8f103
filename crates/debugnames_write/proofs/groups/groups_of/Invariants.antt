use Rattle.std.proofs.Common.{◌≡◌, ◌+◌, ◌≤◌, ◌++◌, length, drop, map}
use Rattle.std.specs.Prelude.{sum_by}
use Rattle.debugnames_write.specs.Counts.{count_of}
use Rattle.debugnames_write.specs.Names.{kept_of_group, cut}
use Rattle.debugnames_write.proofs.groups.groups_of.Given as goal

abbrev pub invariant-loop-name : goal.invariant-loop-name
invariant-loop-name l = record {
  fits : l.start + sum_by count_of (drop l.name-index l.names) ≤ length l.items;
  cut_is : map kept_of_group l.groups.items ++ cut (drop l.start l.items) (drop l.name-index l.names) ≡ cut l.items l.names;
}

use Rattle.std.proofs.Common.{◌≡◌, ◌+◌, ◌≤◌, length, take, map, All}
use Rattle.std.specs.Prelude.{flat_map}
use Rattle.index_model.specs.Layout.{ended}
use Rattle.debugnames_write.specs.Groups.{group_names}
use Rattle.debugnames_write.specs.Names.{kept_of_name, kept_of_group, IsNameOf}
use Rattle.debugnames_write.proofs.name.push_names.Given as goal

abbrev pub invariant-loop-place : goal.invariant-loop-place
invariant-loop-place l = record {
  kept : map kept_of_name l.names.items ≡ map kept_of_group (take l.place l.groups);
  each : All (IsNameOf (group_names l.groups) l.old_strings) l.names.items;
  end : l.end ≡ l.old_strings + length (flat_map ended (take l.place (group_names l.groups)));
  fits : l.end ≤ 4294967295;
}

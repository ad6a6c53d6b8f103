use Rattle.std.proofs.Common.{◌≡◌, ◌<◌, ◌^◌, ◌+◌, [], length, drop, min}
use Rattle.gdb_names.specs.Seen.{contents, joined_by}
use Rattle.gdb_names.proofs.scope.joined_length.Given as goal

-- what is counted and what is left make the whole
abbrev pub invariant-loop-component : goal.invariant-loop-component
invariant-loop-component l = record {
  range : l.length < 2 ^ 64;
  whole : min 18446744073709551615 (l.length + length (joined_by l.separator (contents (drop l.component-index l.components)) [])) ≡ min 18446744073709551615 (length (joined_by l.separator (contents l.components) l.name));
}

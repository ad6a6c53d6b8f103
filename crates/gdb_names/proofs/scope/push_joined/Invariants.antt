use Rattle.std.proofs.Common.{◌≡◌, ◌++◌, drop}
use Rattle.gdb_names.specs.Seen.{contents, joined_by}
use Rattle.gdb_names.proofs.scope.push_joined.Given as goal

-- what is written and what is left make the whole
abbrev pub invariant-loop-component : goal.invariant-loop-component
invariant-loop-component l =
    l.text.items ++ joined_by l.separator (contents (drop l.component-index l.components)) l.name ≡ l.fn.text.items ++ joined_by l.separator (contents l.components) l.name

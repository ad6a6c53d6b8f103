use Rattle.std.proofs.Common.{◌≡◌, ◌++◌, take}
use Rattle.debugnames_write.specs.Laid.{string_bytes}
use Rattle.debugnames_write.proofs.index.push_strings.Given as goal

abbrev pub invariant-loop-name : goal.invariant-loop-name
invariant-loop-name l = l.out.items ≡ l.initial.out.items ++ string_bytes (take l.name-index l.names)

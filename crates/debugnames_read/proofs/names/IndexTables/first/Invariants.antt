use Rattle.std.proofs.Common.{◌≡◌}
use Rattle.std.specs.Prelude.{find}
use Rattle.debugnames_read.specs.Names.{is_named, up_to}
use Rattle.debugnames_read.proofs.names.IndexTables.first.Given as goal

-- the first that is named so is among those that are left
abbrev pub invariant-loop-number : goal.invariant-loop-number
invariant-loop-number l = find (is_named l.self l.sought.name.now) (up_to l.number l.fn.span.to) ≡ find (is_named l.self l.sought.name.now) (up_to l.fn.span.from l.fn.span.to)

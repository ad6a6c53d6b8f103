use Rattle.std.proofs.Common.{◌≡◌, ◌≤◌, length}
use Rattle.ada_spelling.specs.Ends.{numbers_start}
use Rattle.ada_spelling.proofs.ends.before_numbers.Given as goal

-- the numbers at the end of what is left begin where those of the name do
abbrev pub invariant-loop-end : goal.invariant-loop-end
invariant-loop-end l = record { within : l.end ≤ length l.name; same : numbers_start l.name (length l.name) ≡ numbers_start l.name l.end }

abbrev pub decreases-loop-end : goal.decreases-loop-end
decreases-loop-end l = l.end

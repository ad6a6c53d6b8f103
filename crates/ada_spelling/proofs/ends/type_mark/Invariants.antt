use Rattle.std.proofs.Common.{◌≡◌, drop}
use Rattle.std.specs.Prelude.{codes}
use Rattle.ada_spelling.specs.Ends.{place_of, place_from}
use Rattle.ada_spelling.proofs.ends.type_mark.Given as goal

-- what stands from a place on has the first mark of the name
abbrev pub invariant-loop-at : goal.invariant-loop-at
invariant-loop-at l = place_of (codes "___") l.name ≡ place_from (codes "___") l.at (drop l.at l.name)

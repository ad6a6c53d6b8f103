use Rattle.std.proofs.Common.{◌≡◌, Bool, drop, filter}
use Rattle.index_model.specs.Walk.{Item}
use Rattle.index_model.specs.Program.{items_of}
use Rattle.gdb_reach.specs.Standing.{UnitRead, IsOfAFile}
use Rattle.gdb_reach.specs.Runs.{AreTold, KeepsParents}
use Rattle.gdb_reach.proofs.RunLaws.{Goes}
use Rattle.gdb_reach.proofs.run.answers.Given as goal

-- for each unit of which these items are told, the answers so far are its kept items' so far
abbrev pub invariant-loop-item : goal.invariant-loop-item
invariant-loop-item l =
    (r : UnitRead) (keep : Item → Bool) → r.class ≡ l.fn.class → IsOfAFile r.unit → KeepsParents keep → AreTold r (filter keep (items_of r.unit)) l.items →
    Goes r keep l.reached l.answers.items (drop l.item-index l.items)

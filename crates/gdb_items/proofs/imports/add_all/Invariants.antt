use Rattle.std.proofs.Common.{◌≡◌, ◌++◌, length}
use Rattle.index_model.specs.Walk.{items}
use Rattle.index_model.specs.ShardParts.{imports_in}
use Rattle.shard_build.specs.Again.{walk_by}
use Rattle.gdb_items.proofs.ImportLaws.{imports_from}
use Rattle.gdb_items.proofs.imports.add_all.Given as goal

-- the imports so far, and those of the entries that are left
abbrev pub invariant-loop-entry : goal.invariant-loop-entry
invariant-loop-entry l =
    let w = walk_by l.home l.abbrevs in
    l.imports.items ++ imports_from l.home.sections.now w (items l.walk) ≡ l.fn.imports.items ++ imports_in l.home.sections.now w

abbrev pub decreases-loop-entry : goal.decreases-loop-entry
decreases-loop-entry l = length (items l.walk)

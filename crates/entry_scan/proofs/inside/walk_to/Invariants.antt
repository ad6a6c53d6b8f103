use Rattle.std.proofs.Common.{◌≡◌, length}
use Rattle.std.specs.Prelude.{find, ◌==◌}
use Rattle.index_model.specs.Walk.{items}
use Rattle.entry_scan.proofs.inside.walk_to.Given as goal

-- the entries that were passed have other offsets
abbrev pub invariant-loop-item : goal.invariant-loop-item
invariant-loop-item l = find (λ d. d.at == l.initial.offset) (items l.initial.walk) ≡ find (λ d. d.at == l.initial.offset) (items l.walk)

abbrev pub decreases-loop-item : goal.decreases-loop-item
decreases-loop-item l = length (items l.walk)

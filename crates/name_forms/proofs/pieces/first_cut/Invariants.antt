use Rattle.std.proofs.Common.{◌-◌}
use Rattle.name_forms.specs.Pieces.{HasNoCutBefore}
use Rattle.name_forms.proofs.pieces.first_cut.Given as goal

-- no `__` begins before
abbrev pub invariant-loop-second : goal.invariant-loop-second
invariant-loop-second l = HasNoCutBefore l.name (l.second - 1)

use Rattle.std.proofs.Common.{◌≡◌, ◌++◌, drop}
use Rattle.ada_spelling.specs.AdaNames.{encoded}
use Rattle.ada_spelling.proofs.encoding.encode.Given as goal

-- what was written, and what stands from a place on as it is encoded, are the encoded name
abbrev pub invariant-loop-at : goal.invariant-loop-at
invariant-loop-at l = l.text.items ++ encoded (drop l.at l.name) ≡ encoded l.name

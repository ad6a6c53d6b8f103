use Rattle.std.proofs.Common.{◌≡◌, ◌++◌, drop}
use Rattle.name_forms.specs.Coded.{front, is_good}
use Rattle.name_forms.proofs.parts.is_good.Given as goal

-- the name is good exactly where what is left is behind what leads to the part
abbrev pub invariant-loop-b : goal.invariant-loop-b
invariant-loop-b l = is_good (front l.part ++ drop l.b-index l.name) ≡ is_good l.name

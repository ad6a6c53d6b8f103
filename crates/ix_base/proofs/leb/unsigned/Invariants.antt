use Rattle.std.proofs.Common.{◌≡◌, ◌+◌, ◌-◌, ◌<◌, ◌^◌, drop, Some}
use Rattle.ix_base.specs.Reading.{unsigned_leb}
use Rattle.ix_base.proofs.leb.unsigned.Given as goal

-- the number from byte k on is value
abbrev pub invariant-loop-k : goal.invariant-loop-k
invariant-loop-k l = record { number : unsigned_leb (drop l.k l.bytes) ≡ Some (l.value, l.last + 1 - l.k); fits : l.value < 2 ^ 64 }

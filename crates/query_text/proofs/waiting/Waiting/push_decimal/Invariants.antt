use Rattle.std.proofs.Common.{◌≡◌, ◌+◌, ◌^◌, ◌<◌, false, length, drop}
use Rattle.std.specs.Fmt.{digits}
use Rattle.query_text.proofs.DigitLaws.{onto}
use Rattle.query_text.proofs.waiting.Waiting.push_decimal.Given as goal

-- the digits so far stand behind those of the rest
abbrev pub invariant-loop-rest : goal.invariant-loop-rest
invariant-loop-rest l = record {
  within : l.start < 20;
  long : length l.digits ≡ 20;
  small : l.rest < 10 ^ (l.start + 1);
  text : onto (l.start + 45) 10 l.rest (drop (l.start + 1) l.digits) ≡ digits 10 false l.number;
}

abbrev pub decreases-loop-rest : goal.decreases-loop-rest
decreases-loop-rest l = l.rest

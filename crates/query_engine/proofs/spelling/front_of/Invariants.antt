use Rattle.std.proofs.Common.{◌≡◌, ◌+◌, ◌-◌, ◌*◌, ◌^◌, ◌<◌, ◌≤◌, drop}
use Rattle.query_engine.specs.Front.{front}
use Rattle.query_engine.proofs.spelling.front_of.Given as goal

abbrev pub invariant-loop-i : goal.invariant-loop-i
invariant-loop-i l = (l.number < 256 ^ l.i) × (l.number * 256 ^ (8 - l.i) + front (8 - l.i) (drop l.i l.bytes) ≡ front 8 l.bytes) × (l.i ≤ 8)

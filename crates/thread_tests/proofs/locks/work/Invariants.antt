use Rattle.std.proofs.Common.{◌≡◌, false}
use Rattle.stage_lock.specs.Seen.{IsPassOf}
use Rattle.thread_tests.proofs.locks.work.Given as goal

abbrev pub invariant-loop : goal.invariant-loop
invariant-loop g l = IsPassOf l.lock l.pass × (l.pass.holding ≡ false)

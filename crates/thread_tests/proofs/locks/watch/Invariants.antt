use Rattle.stage_lock.specs.Seen.{IsPassOf}
use Rattle.thread_tests.proofs.locks.watch.Given as goal

abbrev pub invariant-loop : goal.invariant-loop
invariant-loop g l = IsPassOf l.lock l.pass

use Rattle.std.proofs.Common.{◌≡◌, ◌≤◌, ◌*◌, false, vec_len, All}
use Rattle.stage_lock.specs.Seen.{IsPassOf}
use Rattle.race_command.specs.Runners.{IsFresh}
use Rattle.race_command.specs.declared.transcript.TheConstants.{MAX_RACE_BYTES}
use Rattle.race_command.proofs.rounds.gather.Given as goal

-- so many readers so far, each from the pass's floor on
abbrev pub invariant-loop-reader : goal.invariant-loop-reader
invariant-loop-reader l = record {
  own : IsPassOf l.board l.pass;
  idle : l.pass.holding ≡ false;
  floor : l.pass.floor ≡ l.initial.pass.floor;
  count : vec_len l.runners ≡ l._reader;
  fresh : All (IsFresh l.board l.initial.pass.floor) l.runners.items;
  shares : All (λ r. 2 * l.readers * r.share ≤ MAX_RACE_BYTES) l.runners.items;
}

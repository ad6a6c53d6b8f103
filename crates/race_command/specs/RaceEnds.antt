-- How a race ends.
use Rattle.std.specs.Prelude.{◌≡◌, ℕ, nat_lt, ◌++◌, Bool, true, false, ◌||◌, List, length, flat_map, Option, Result, Ok, Err, ⊤}
use Rattle.std.specs.List.{list_any}
use Rattle.outside.specs.Written.{Appends, AppendsPrefix}
use Rattle.index_model.specs.declared.job.CacheKind.TheVariants.{Gdb8}
use Rattle.index_model.specs.Outputs.{Subject}
use Rattle.stage_core.specs.Machines.{FitsFile}
use Rattle.stage_lock.specs.Seen.{Lock}
use Rattle.index_pool.specs.declared.ended.Ended.{Ended}
use Rattle.index_pool.specs.declared.ended.Ended.TheVariants as ends
use Rattle.index_pool.specs.Ends.{stage_at_end, IsLast}
use Rattle.query_text.specs.declared.fault.SessionFault.{SessionFault}
use Rattle.query_text.specs.declared.fault.SessionFault.TheVariants as faults
use Rattle.race_command.specs.Runners.{round_bytes, EachAt, WasHeldTwice}
use Rattle.race_command.specs.declared.runner.Round.TheVariants.{During, After}
use Rattle.race_command.specs.declared.race_end.Fate.{Fate}
use Rattle.race_command.specs.declared.race_end.Fate.TheVariants.{Whole, Long, Lost}
use Rattle.race_command.specs.declared.transcript.TheConstants.{MAX_RACE_BYTES}
use Rattle.race_command.specs.declared.runner.Runner.{Runner}
use Rattle.command_base.specs.declared.status.Status.{Status}
use Rattle.command_base.specs.declared.status.Status.TheVariants.{Answered, Refused, WriteFault, InputTooLong, Stopped}
use Rattle.name_quotes.specs.declared.quote.Spelling.{Spelling}

-- the cause of a status of sessions of readers
abbrev pub CausesOfRace : Type 0 → Status → Type 0
CausesOfRace writes Answered = ⊤
CausesOfRace writes Refused = ⊤
CausesOfRace writes InputTooLong = ⊤
CausesOfRace writes Stopped = ⊤
CausesOfRace writes WriteFault = writes
CausesOfRace writes other = ⊥

-- what became of a session: it answered the whole script, or stopped at a line that is too long, or memory was refused to it
abbrev pub fate_of : {X : Type 0} → Result X SessionFault → Fate
fate_of (Ok x) = Whole
fate_of (Err faults.LineTooLong) = Long
fate_of (Err faults.ReadFault) = Long
fate_of (Err faults.InputTooLong) = Long
fate_of (Err faults.NoMemory) = Lost
fate_of (Err faults.WriteFault) = Lost

abbrev pub is_long : Fate → Bool
is_long Long = true
is_long other = false

abbrev pub is_lost : Fate → Bool
is_lost Lost = true
is_lost other = false

-- of both sessions of a reader
abbrev pub has_long : Runner → Bool
has_long r = is_long (fate_of r.during.ended) || is_long (fate_of r.after.ended)

abbrev pub has_lost : Runner → Bool
has_lost r = is_lost (fate_of r.during.ended) || is_lost (fate_of r.after.ended)

-- a line that is too long comes before the build's end
abbrev pub race_status : Bool → Ended → Status
race_status true ended = InputTooLong
race_status false ends.Done = Answered
race_status false ends.Refused = Refused
race_status false ends.Stopped = Stopped

-- the bytes of both rounds
abbrev pub texts_of : List Runner → List ℕ
texts_of rs = flat_map (round_bytes During) rs ++ flat_map (round_bytes After) rs

-- memory was refused to a session, or the texts are longer together than those of a race may be
abbrev pub wants_memory : List Runner → Bool
wants_memory rs = list_any has_lost rs || nat_lt MAX_RACE_BYTES (length (texts_of rs))

-- Where memory is wanted nothing was written. Else the texts were, whole or in part.
pub data IsFinished (rs : List Runner) (ended : Ended) (old new : Option (List ℕ)) (failed : Type 0) : Status → Type 0 where
  lost : wants_memory rs ≡ true → old ≡ new → IsFinished rs ended old new failed Stopped
  written : wants_memory rs ≡ false → Appends old new (texts_of rs) → IsFinished rs ended old new failed (race_status (list_any has_long rs) ended)
  cut : wants_memory rs ≡ false → failed → AppendsPrefix old new (texts_of rs) → IsFinished rs ended old new failed WriteFault

module _ (spelling : Spelling) where
  -- the readers of a board were in both sessions, the second after the build's end
  pub record HasEnded (board : Lock Subject) (script : List ℕ) (runners : List Runner) (ended : Ended) : Type 0 where
    pub is_gdb : board.subject.cache ≡ Gdb8
    pub each : EachAt (WasHeldTwice spelling board script (stage_at_end ended)) runners
    pub last : IsLast (stage_at_end ended)
    pub fits : FitsFile board.subject (stage_at_end ended)

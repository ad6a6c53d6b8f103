-- What a session says while a build goes on, and the status once both have ended.
use Rattle.std.specs.Prelude.{ℕ, List, Option, Result, Ok, Err, ⊤}
use Rattle.index_pool.specs.declared.ended.Ended.{Ended}
use Rattle.index_pool.specs.declared.ended.Ended.TheVariants as ends
use Rattle.query_text.specs.declared.fault.SessionFault.{SessionFault}
use Rattle.query_text.specs.declared.fault.SessionFault.TheVariants as faults
use Rattle.session_base.specs.Floors.{HasMost}
use Rattle.session_base.specs.Heard.{Heard}
use Rattle.command_base.specs.Replies.{Writes, Wrote}
use Rattle.serve_command.specs.SessionResults.{SaysServe}
use Rattle.session_base.specs.Sessions.{Serves}
use Rattle.command_base.specs.declared.status.Status.{Status}
use Rattle.command_base.specs.declared.status.Status.TheVariants.{Answered, Refused, WriteFault, InputFault, InputTooLong, Stopped}
use Rattle.name_quotes.specs.declared.quote.Spelling.{Spelling}

-- the status of a session that stopped
abbrev pub status_of : SessionFault → Status
status_of faults.ReadFault = InputFault
status_of faults.WriteFault = WriteFault
status_of faults.LineTooLong = InputTooLong
status_of faults.InputTooLong = InputTooLong
status_of faults.NoMemory = Stopped

-- the status of a build's end
abbrev pub status_at : Ended → Status
status_at ends.Done = Answered
status_at ends.Refused = Refused
status_at ends.Stopped = Stopped

-- a session that stopped comes before the build's end
abbrev pub status_behind : {X : Type 0} → Result X SessionFault → Ended → Status
status_behind (Ok x) ended = status_at ended
status_behind (Err fault) ended = status_of fault

-- the cause of a status of a session
abbrev pub CausesOfSession : Type 0 → Status → Type 0
CausesOfSession writes Answered = ⊤
CausesOfSession writes Refused = ⊤
CausesOfSession writes InputFault = ⊤
CausesOfSession writes InputTooLong = ⊤
CausesOfSession writes Stopped = ⊤
CausesOfSession writes WriteFault = writes
CausesOfSession writes other = ⊥

module _ (spelling : Spelling) where
  -- The whole input was answered, and the reader has this floor then: no digit is above a most that the floor has. Or the
  -- session stopped, and the text is that of its status.
  abbrev pub Listened : {X : Type 0} → List ℕ → ℕ → Heard → Option (List ℕ) → Option (List ℕ) → ℕ → Result X SessionFault → Type 0
  Listened file wait heard old new floor (Ok x) = (most : ℕ) → HasMost most floor → Writes old new (Serves spelling file wait most heard)
  Listened file wait heard old new floor (Err fault) = Wrote (SaysServe spelling file wait heard) (status_of fault) old new

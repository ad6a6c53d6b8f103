-- What a reader of a race came to in its sessions.
use Rattle.std.specs.Prelude.{◌≡◌, ◌<◌, ℕ, List, [], ◌∷◌, ◌++◌, length, get_or, codes, decimal, Result, Ok, Err, ⊤}
use Rattle.index_model.specs.Outputs.{Subject}
use Rattle.index_model.specs.Stages.{initial, IsReachable}
use Rattle.index_model.specs.Texts.{line}
use Rattle.index_model.specs.Transcripts.{lines_of}
use Rattle.stage_lock.specs.Seen.{Lock}
use Rattle.index_board.specs.Marks.{AreMarks, floor_after}
use Rattle.query_text.specs.declared.fault.SessionFault.{SessionFault}
use Rattle.query_text.specs.declared.fault.SessionFault.TheVariants as faults
use Rattle.query_text.specs.Sessions.{look_ups, transcript}
use Rattle.race_command.specs.Races.{AreAll, AreBeforeLong}
use Rattle.race_command.specs.declared.runner.Round.{Round}
use Rattle.race_command.specs.declared.runner.Round.TheVariants.{During, After}
use Rattle.race_command.specs.declared.runner.Runner.{Runner}
use Rattle.race_command.specs.declared.runner.Session.{Session}
use Rattle.name_quotes.specs.declared.quote.Spelling.{Spelling}

-- ---- one session

-- the word of a round
abbrev pub round_word : Round → List ℕ
round_word During = codes "during"
round_word After = codes "after"

-- the line that stands before the text of a session
abbrev pub head_of : Round → ℕ → List ℕ
head_of round number = line (round_word round ∷ decimal number ∷ [])

-- ---- one reader

-- its session of a round
abbrev pub session_in : Round → Runner → Session
session_in During r = r.during
session_in After r = r.after

-- the first session stays in the second round
abbrev pub Keeps : Round → Runner → Runner → Type 0
Keeps During old new = ⊤
Keeps After old new = new.during ≡ old.during

-- ---- all readers

-- what holds of each with its number
abbrev pub EachAt : (ℕ → Runner → Type 0) → List Runner → Type 0
EachAt P rs = (i : ℕ) (d : Runner) → i < length rs → P i (get_or rs i d)

-- a reader that wasn't in a session yet, from a floor on
pub record IsFresh (board : Lock Subject) (floor : ℕ) (r : Runner) : Type 0 where
  pub board_is : r.reader.board ≡ board
  pub floor_is : r.reader.pass.floor ≡ floor

-- the bytes of its session of a round
abbrev pub round_bytes : Round → Runner → List ℕ
round_bytes round r = (session_in round r).text.bytes

-- the reader was told what a pass with this floor knows
pub record Told (floor : ℕ) (old new : Runner) : Type 0 where
  pub board : new.reader.board ≡ old.reader.board
  pub reach : IsReachable old.reader.pass.floor new.reader.pass.floor
  pub told : IsReachable floor new.reader.pass.floor
  pub during : new.during ≡ old.during

-- each was told
pub record AllTold (floor : ℕ) (old new : List Runner) : Type 0 where
  pub count : length new ≡ length old
  pub each : (i : ℕ) (d : Runner) → i < length old → Told floor (get_or old i d) (get_or new i d)

module _ (spelling : Spelling) where
  -- lines were answered at marks that lead from a floor to another, and their text stands behind the head
  pub record Tells (s : Subject) (head : List ℕ) (start end : ℕ) (lines : List (List ℕ)) (bytes : List ℕ) : Type 0 where
    pub marks : List ℕ
    pub each : AreMarks s start marks
    pub floor : end ≡ floor_after start marks
    pub count : length marks ≡ look_ups lines
    pub text_is : bytes ≡ head ++ transcript spelling s lines marks

  -- What a session over a script tells, by how it ended. A script can be read and isn't too long, and where memory was refused
  -- nothing is said.
  abbrev pub TellsBy : {X : Type 0} → Subject → List ℕ → List ℕ → ℕ → ℕ → Result X SessionFault → List ℕ → Type 0
  TellsBy s script head start end (Ok x) bytes = AreAll script (lines_of script) × Tells s head start end (lines_of script) bytes
  TellsBy s script head start end (Err faults.LineTooLong) bytes = (lines : List (List ℕ)) × AreBeforeLong script lines × Tells s head start end lines bytes
  TellsBy s script head start end (Err faults.NoMemory) bytes = ⊤
  TellsBy s script head start end (Err faults.WriteFault) bytes = ⊤
  TellsBy s script head start end (Err faults.ReadFault) bytes = ⊥
  TellsBy s script head start end (Err faults.InputTooLong) bytes = ⊥

  abbrev pub IsHeld : Subject → List ℕ → List ℕ → ℕ → ℕ → Session → Type 0
  IsHeld s script head start end x = TellsBy s script head start end x.ended x.text.bytes

  -- the reader with a number answered a script in a round
  pub record Answered (round : Round) (number : ℕ) (script : List ℕ) (old new : Runner) : Type 0 where
    pub board : new.reader.board ≡ old.reader.board
    pub held : IsHeld old.reader.board.subject script (head_of round number) old.reader.pass.floor new.reader.pass.floor (session_in round new)
    pub keeps : Keeps round old new

  -- A reader of a board that was in its first session: the floor behind that leads to the one that it has.
  pub record WasHeld (board : Lock Subject) (script : List ℕ) (number : ℕ) (r : Runner) : Type 0 where
    pub board_is : r.reader.board ≡ board
    pub start : ℕ
    pub started : IsReachable initial start
    pub end : ℕ
    pub held : IsHeld board.subject script (head_of During number) start end r.during
    pub reach : IsReachable end r.reader.pass.floor

  -- A reader that was in both sessions: the first ended at a floor that leads to the one at which the second began, and so does that of
  -- a pass.
  pub record WasHeldTwice (board : Lock Subject) (script : List ℕ) (floor number : ℕ) (r : Runner) : Type 0 where
    pub start : ℕ
    pub started : IsReachable initial start
    pub end : ℕ
    pub first : IsHeld board.subject script (head_of During number) start end r.during
    pub next : ℕ
    pub reach : IsReachable end next
    pub told : IsReachable floor next
    pub second : IsHeld board.subject script (head_of After number) next r.reader.pass.floor r.after

  -- each answered a script in a round
  pub record AllAnswered (round : Round) (script : List ℕ) (old new : List Runner) : Type 0 where
    pub count : length new ≡ length old
    pub each : (i : ℕ) (d : Runner) → i < length old → Answered round i script (get_or old i d) (get_or new i d)

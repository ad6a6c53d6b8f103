-- Marks of a reader, and what a poll answers at one.
use Rattle.std.specs.Prelude.{◌≡◌, ◌≤◌, ℕ, List, [], ◌∷◌, ◌++◌, None, IsSome}
use Rattle.index_model.specs.declared.answer.Look.{Look}
use Rattle.index_model.specs.Answers.{Reply, reply_at}
use Rattle.index_model.specs.Cache.{size_in}
use Rattle.index_model.specs.Faults.{built_of}
use Rattle.index_model.specs.Outputs.{Subject}
use Rattle.index_model.specs.Parts.{reply_by}
use Rattle.index_model.specs.Queries.{Query, need_of}
use Rattle.index_model.specs.Seen.{reply_seen}
use Rattle.index_model.specs.Stages.{IsReachable, stopped}
use Rattle.stage_core.specs.Machines.{FitsFile}
use Rattle.index_board.specs.declared.poll.Poll.{Poll}
use Rattle.index_board.specs.declared.poll.Poll.TheVariants.{Done, Fetch}
use Rattle.index_board.specs.Kept.{HasPublished}
use Rattle.index_board.specs.Readers.{Reader}

-- the reader once it has made one mark more, which is its floor
abbrev pub marked : Reader → ℕ → Reader
marked r s = record r { pass = record r.pass { marks = r.pass.marks ++ s ∷ []; floor = s } }

-- what holds of a mark: it is reachable from the floor, at most 5, and fits the file
pub record IsMark (r : Reader) (s : ℕ) : Type 0 where
  pub reach : IsReachable r.pass.floor s
  pub range : s ≤ stopped
  pub fits : FitsFile r.board.subject s

-- marks one after the other: each is reachable from the one before it, the first from the floor, is at most 5, and fits the file
abbrev pub AreMarks : Subject → ℕ → List ℕ → Type 0
AreMarks s floor [] = Unit {0}
AreMarks s floor (mark ∷ marks) = IsReachable floor mark × (mark ≤ stopped) × FitsFile s mark × AreMarks s mark marks

-- the floor behind some marks
abbrev pub floor_after : ℕ → List ℕ → ℕ
floor_after floor [] = floor
floor_after floor (mark ∷ marks) = floor_after mark marks

-- what the file replies at a stage
abbrev pub file_reply : Subject → Query → ℕ → Reply
file_reply s q stage = reply_at (built_of s.file) (size_in s.cache (built_of s.file)) q stage

-- the look is at this stage, with the file's reply
abbrev pub IsLook : Subject → Query → ℕ → Look → Type 0
IsLook s q stage look = (look.stage ≡ stage) × (reply_seen look.reply ≡ file_reply s q stage)

-- the answer to a query at a mark: a look where the kept parts have a reply at the mark; else a fetch is needed
abbrev pub IsPoll : Reader → Query → ℕ → Poll → Type 0
IsPoll r q s (Done look) = IsLook r.board.subject q s look × IsSome (reply_by r.kept q s)
IsPoll r q s (Fetch stage) = (stage ≡ s) × (reply_by r.kept q s ≡ None)

-- the reader made one mark, and answered by what it keeps
abbrev pub IsPolled : Reader → Query → Poll → Reader → Type 0
IsPolled old q poll new = (s : ℕ) × IsMark old s × (new ≡ marked old s) × IsPoll old q s poll

-- the kept parts are all that the stages up to the floor publish, so at any later mark a query that needs no more has a reply
pub record IsReady (r : Reader) : Type 0 where
  pub parts : HasPublished r.pass.floor r.kept
  pub polls : (q : Query) (s : ℕ) → need_of q ≤ r.pass.floor → IsReachable r.pass.floor s → IsSome (reply_by r.kept q s)

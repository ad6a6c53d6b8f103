-- What a look-up that may wait does.
use Rattle.std.specs.Prelude.{◌≡◌, ◌⊎◌, ℕ, Bool, true, false, if◌then◌else◌, [], ◌∷◌, ◌++◌, Result, Ok, Err}
use Rattle.ix_base.specs.declared.fault.NoMemory.{NoMemory}
use Rattle.index_model.specs.declared.answer.Look.{Look}
use Rattle.index_model.specs.Parts.{parts}
use Rattle.index_model.specs.Queries.{Query}
use Rattle.stage_core.specs.Machines.{Machine, stage_of}
use Rattle.index_board.specs.Kept.{filled, answers}
use Rattle.index_board.specs.Marks.{IsMark, IsLook, marked}
use Rattle.index_board.specs.Readers.{Reader}
use Rattle.index_board.specs.Turns.{Turn}

-- the kept parts answer the query, and the mark was made as in a poll
pub record ByKept (old : Reader) (q : Query) (s : ℕ) (new : Reader) : Type 0 where
  pub kept : answers old.kept q ≡ true
  pub reader : new ≡ marked old s

-- The kept parts don't answer it, and the mark was made within a turn: it is the stage of the machine that was taken out and
-- put back. What that machine has published is kept, unless memory was wanted to share it.
pub record InTurn (old : Reader) (q : Query) (s : ℕ) (shared : Bool) (new : Reader) : Type 0 where
  pub lacking : answers old.kept q ≡ false
  pub machine : Machine
  pub stage : s ≡ stage_of machine
  pub turn : Turn old.board (record old.pass { marks = old.pass.marks ++ s ∷ [] }) new.pass machine machine
  pub parts_kept : new.kept ≡ (if shared then filled old.kept (parts machine.state) else old.kept)

-- exactly one mark was made, which is the floor then, in this way
pub record OneMark (old : Reader) (s : ℕ) (new : Reader) (Way : Type 0) : Type 0 where
  pub mark : IsMark old s
  pub board : new.board ≡ old.board
  pub marks : new.pass.marks ≡ old.pass.marks ++ s ∷ []
  pub floor : new.pass.floor ≡ s
  pub way : Way

-- a look at the mark; or memory was wanted in a turn
abbrev pub IsAsked : Reader → Query → Result Look NoMemory → Reader → Type 0
IsAsked old q (Ok look) new = (s : ℕ) × OneMark old s new (ByKept old q s new ⊎ InTurn old q s true new) × IsLook old.board.subject q s look
IsAsked old q (Err e) new = (s : ℕ) × OneMark old s new (InTurn old q s false new)

-- Marks that a reader gains.
use Rattle.std.specs.Prelude.{◌≡◌, ℕ, List, ◌++◌}
use Rattle.index_board.specs.Kept.{Keeps}
use Rattle.index_board.specs.Marks.{AreMarks, floor_after}
use Rattle.index_board.specs.Readers.{Reader}

-- the reader's pass made these marks, in order; its board and its share in it are the same, and the parts that it kept stay
pub record Gains (old new : Reader) (marks : List ℕ) : Type 0 where
  pub board : new.board ≡ old.board
  pub share : new.pass.share ≡ old.pass.share
  pub marks_made : new.pass.marks ≡ old.pass.marks ++ marks
  pub floor : new.pass.floor ≡ floor_after old.pass.floor marks
  pub each : AreMarks old.board.subject old.pass.floor marks
  pub kept : Keeps old.kept new.kept

-- Marks one after the other, and more behind them.
use Rattle.std.proofs.Common.{◌≡◌, ◌++◌, [], ◌∷◌, ℕ, List, refl}
use Rattle.index_model.specs.Outputs.{Subject}
use Rattle.index_model.specs.Stages.{IsReachable, same}
use Rattle.index_model.proofs.StageLaws.{closure}
use Rattle.index_board.specs.Marks.{AreMarks, floor_after}

pub marks_more : (s : Subject) (floor : ℕ) (ms ns : List ℕ) → AreMarks s floor ms → AreMarks s (floor_after floor ms) ns → AreMarks s floor (ms ++ ns)
marks_more s floor [] ns a b = b
marks_more s floor (m ∷ ms) ns a b = (a.0, a.1, a.2, marks_more s m ms ns a.3 b)

pub floor_after_more : (floor : ℕ) (ms ns : List ℕ) → floor_after floor (ms ++ ns) ≡ floor_after (floor_after floor ms) ns
floor_after_more floor [] ns = refl
floor_after_more floor (m ∷ ms) ns = floor_after_more m ms ns

-- they lead from a floor to the one behind them
pub marks_lead : (s : Subject) (floor : ℕ) (marks : List ℕ) → AreMarks s floor marks → IsReachable floor (floor_after floor marks)
marks_lead s floor [] each = same
marks_lead s floor (m ∷ ms) each = closure.onwards floor m (floor_after m ms) each.0 (marks_lead s m ms each.3)

use Rattle.index_board.proofs.Fills.{kept_or, parts_same}
use Rattle.index_board.proofs.kept.fill.Goals as goal

pub returns : goal.returns
returns c = parts_same _ _ _ _ _ _ _ _ (kept_or _ _ _ _ c.keep.ensures) (kept_or _ _ _ _ c.keep-2.ensures) (kept_or _ _ _ _ c.keep-3.ensures) c.keep-4.ensures

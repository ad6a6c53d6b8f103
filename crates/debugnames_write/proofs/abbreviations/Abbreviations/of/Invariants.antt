use Rattle.std.proofs.Common.{take}
use Rattle.debugnames_write.proofs.RowLaws.{AreRowsOf}
use Rattle.debugnames_write.proofs.abbreviations.Abbreviations.of.Given as goal

abbrev pub invariant-loop-place : goal.invariant-loop-place
invariant-loop-place l = AreRowsOf (take l.place l.items) l.rows.items

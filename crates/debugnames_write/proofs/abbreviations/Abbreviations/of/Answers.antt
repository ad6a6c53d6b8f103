use Rattle.debugnames_write.proofs.RowLaws.{rows_keep, rows_next, rows_all}
use Rattle.debugnames_write.proofs.abbreviations.Abbreviations.of.Goals as goal
use Rattle.debugnames_write.proofs.abbreviations.Abbreviations.of.Goals.{then-not-keeps_row+in_ok-add, else-not-keeps_row}

pub loop-place-preserved : goal.loop-place-preserved
loop-place-preserved c =
    let items = c.args.items.now in
    let k = c.loop-place.place in
    elim c.if-not-keeps_row.branch [
      | then-not-keeps_row+in_ok-add w ↦ rw w.rows-is (rows_next items k _ c.loop-place.rows.items w.add.new.rows.items c.loop-place-test.true c.loop-place.invariant w.in_ok-add.ensures.rises w.in_ok-add.ensures.adds)
      | else-not-keeps_row w ↦ rw w.rows-is (rows_keep items k c.loop-place.rows.items c.loop-place-test.true (c.keeps_row.ensures w.if-not-keeps_row.false) c.loop-place.invariant)
    ]

pub returns : goal.returns
returns c = rows_all c.args.items.now c.loop-place.place c.loop-place.rows.items c.loop-place-test.false c.loop-place.invariant

use Rattle.std.proofs.Common.{◌≢◌, ◌<◌, length, get_or, map, sym, ◌∙◌, arith}
use Rattle.index_model.specs.NameIndex.{Row as IndexRow}
use Rattle.debugnames_write.specs.Rows.{row_seen}
use Rattle.debugnames_write.proofs.RowLaws.{put_rises, put_adds, row_past, row_other}
use Rattle.debugnames_write.proofs.abbreviations.add.Goals as goal
use Rattle.debugnames_write.proofs.abbreviations.add.Goals.{else-place-len-via-then-place-len+else-eq, else-place-len-via-else-place-len}

pub returns-clause-rises : goal.returns-clause-rises
returns-clause-rises c =
    let rows = c.args.rows.now.items in
    let p = c.place_of-place.result in
    let parts = rw c.deref.ensures.value at c.place_of-place.ensures.parts in
    let within = rw c.deref.ensures.value at c.place_of-place.ensures.within in
    let other : (d : IndexRow) → c.place_of-place.result < length (map row_seen c.args.rows.now.items) → row_seen c.args.row ≢ get_or (map row_seen c.args.rows.now.items) c.place_of-place.result d =
    elim c.else-place-len.branch [
      | else-place-len-via-then-place-len+else-eq w ↦ row_other rows c.args.row w.index.result.now p (omega arith) w.index.ensures (sym w.eq.ensures ∙ w.if-eq.false)
      | else-place-len-via-else-place-len w ↦ row_past rows c.args.row p (omega arith)
    ] in
    rw c.in_ok-insert.ensures.items (put_rises rows c.args.row p within parts other c.requires)

pub returns-clause-adds : goal.returns-clause-adds
returns-clause-adds c =
    let rows = c.args.rows.now.items in
    let p = c.place_of-place.result in
    let parts = rw c.deref.ensures.value at c.place_of-place.ensures.parts in
    let within = rw c.deref.ensures.value at c.place_of-place.ensures.within in
    let other : (d : IndexRow) → c.place_of-place.result < length (map row_seen c.args.rows.now.items) → row_seen c.args.row ≢ get_or (map row_seen c.args.rows.now.items) c.place_of-place.result d =
    elim c.else-place-len.branch [
      | else-place-len-via-then-place-len+else-eq w ↦ row_other rows c.args.row w.index.result.now p (omega arith) w.index.ensures (sym w.eq.ensures ∙ w.if-eq.false)
      | else-place-len-via-else-place-len w ↦ row_past rows c.args.row p (omega arith)
    ] in
    rw c.in_ok-insert.ensures.items (put_adds rows c.args.row p within parts other)

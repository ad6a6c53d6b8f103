use Rattle.std.proofs.Common.{sym}
use Rattle.index_model.specs.Walk.{token_or_fault}
use Rattle.index_model.proofs.WalkLaws.{walk_is_left}
use Rattle.entry_scan.proofs.EntryLaws.{null_below_root}
use Rattle.entry_scan.proofs.walk.Walk.new.Goals as goal

pub returns : goal.returns
returns c =
    let u = c.args.unit.now in
    let table = c.args.abbrevs.now in
    rw c.new-cursor.ensures (sym (walk_is_left (token_or_fault u table) (null_below_root u table) _))

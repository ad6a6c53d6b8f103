use Rattle.std.proofs.Common.{ℕ}
use Rattle.entry_scan.specs.declared.abbrev_table.AbbrevTable.{AbbrevTable}
use Rattle.entry_scan.specs.TablesAtOffsets.{IsAtOffset}
use Rattle.shard_build.specs.Runs.{AreAtOffsets}
use Rattle.shard_build.proofs.MapLaws.{one_more}
use Rattle.shard_build.proofs.tables.Tables.put.Goals as goal

pub returns : goal.returns
returns c section known own =
    let table : AbbrevTable = record { offset = c.args.table.offset; abbrevs = c.args.table.abbrevs } in
    let before : AreAtOffsets section c.is_needed.new.self.kept = rw c.is_needed.ensures known in
    one_more (λ (_ : ℕ) (t : AbbrevTable). IsAtOffset section t) c.is_needed.new.self.kept c.insert.new.self c.args.table.offset table before own c.in_ok-insert.ensures.updates.0

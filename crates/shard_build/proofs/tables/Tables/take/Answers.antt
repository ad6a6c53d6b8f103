use Rattle.std.proofs.Common.{ℕ, sym, ◌∙◌}
use Rattle.entry_scan.specs.declared.abbrev_table.AbbrevTable.{AbbrevTable}
use Rattle.entry_scan.specs.TablesAtOffsets.{IsAtOffset}
use Rattle.shard_build.proofs.MapLaws.{one_less}
use Rattle.shard_build.proofs.tables.Tables.take.Goals as goal

pub returns : goal.returns
returns c = record {
  taken = λ section known t e. known c.args.offset t (sym c.swap_remove.ensures.value ∙ c.in_ok-table.was ∙ e);
  kept = λ section known. one_less (λ (_ : ℕ) (t : AbbrevTable). IsAtOffset section t) c.args.self.now.kept c.swap_remove.new.self c.args.offset known c.swap_remove.ensures.updates.0;
}

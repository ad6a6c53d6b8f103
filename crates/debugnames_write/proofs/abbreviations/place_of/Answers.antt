use Rattle.std.proofs.Common.{rules}
use Rattle.std.proofs.lemmas.List.Sorted.{IsPartitionPoint-from_clause}
use Rattle.index_model.specs.NameIndex.{row_lt}
use Rattle.debugnames_write.specs.declared.item.Row.{Row}
use Rattle.debugnames_write.specs.Rows.{row_seen}
use Rattle.debugnames_write.proofs.RowLaws.{row_parts}
use Rattle.debugnames_write.proofs.abbreviations.place_of.Goals as goal

pub returns-clause-parts : goal.returns-clause-parts
returns-clause-parts c = IsPartitionPoint-from_clause (λ (r : Row). row_lt (row_seen r) (row_seen c.args.row)) c.args.rows.now _ c.partition_point.ensures.partitioned (row_parts c.args.rows.now c.args.row c.requires) (λ a r q k. search rules)

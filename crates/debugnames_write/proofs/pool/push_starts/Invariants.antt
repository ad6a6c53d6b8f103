use Rattle.std.proofs.Common.{◌≡◌, ◌≤◌, List}
use Rattle.index_model.specs.NameIndex.{Row as IndexRow}
use Rattle.debugnames_write.specs.declared.name.Name.{Name}
use Rattle.debugnames_write.specs.Laid.{group_sizes}
use Rattle.debugnames_write.proofs.PoolLaws.{AreStartsTo}
use Rattle.debugnames_write.proofs.pool.push_starts.Given as goal

abbrev pub invariant-loop-size : goal.invariant-loop-size
invariant-loop-size l = record {
  made : (rows : List IndexRow) (names : List Name) → l.sizes ≡ group_sizes rows names → AreStartsTo rows names l.size-index l.starts.items l.end;
  small : l.end ≤ 4294967283;
}

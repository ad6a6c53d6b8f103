use Rattle.std.proofs.Common.{sym, subst}
use Rattle.gdb_index.specs.Ranges.{AreListed}
use Rattle.gdb_index.proofs.RangeLaws.{none_listed}
use Rattle.gdb_index.proofs.part.list_part.Goals as goal

pub loop-next-init : goal.loop-next-init
loop-next-init c =
    let f = c.args.file.now.file in
    record {
      below = c.requires.order;
      listed = subst (AreListed f c.args.first c.args.first) (sym c.new-entries.ensures.items) (none_listed f c.args.first);
    }

pub loop-next-preserved : goal.loop-next-preserved
loop-next-preserved c = record {
  below = c.group_end-behind.ensures.below;
  listed = c.in_ok-list_group.ensures c.args.first c.loop-next.invariant.listed;
}

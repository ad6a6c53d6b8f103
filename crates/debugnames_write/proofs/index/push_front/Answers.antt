use Rattle.std.proofs.Common.{true, false}
use Rattle.common_laws.proofs.Appended.{four_parts}
use Rattle.index_model.specs.Layout.{u32_bytes}
use Rattle.index_model.specs.NameIndex.{unit_offsets}
use Rattle.debugnames_write.specs.Laid.{head_with}
use Rattle.debugnames_write.proofs.index.push_front.Goals as goal

pub returns : goal.returns
returns c =
    four_parts c.args.out.now.items (u32_bytes c.args.length) (head_with c.args.places.now c.args.names c.args.table_size) (unit_offsets false c.args.units.now) (unit_offsets true c.args.units.now)
    c.in_ok-push_u32.ensures c.in_ok-push_counts.ensures c.in_ok-push_unit_offsets.ensures c.in_ok-push_unit_offsets-2.ensures

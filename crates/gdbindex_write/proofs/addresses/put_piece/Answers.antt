use Rattle.std.proofs.Common.{get_or}
use Rattle.common_laws.proofs.Appended.{three_parts}
use Rattle.index_model.specs.Layout.{u32_bytes, u64_bytes}
use Rattle.gdbindex_write.proofs.addresses.put_piece.Goals as goal

pub returns : goal.returns
returns c =
    let p = c.args.piece.now in
    three_parts c.args.out.now.items (u64_bytes p.range.low) (u64_bytes p.range.end) (u32_bytes (get_or c.args.numbers.now p.unit 0)) c.in_ok-put_u64.ensures c.in_ok-put_u64-2.ensures c.in_ok-put_u32.ensures

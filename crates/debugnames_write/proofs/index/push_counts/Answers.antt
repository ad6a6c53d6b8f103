use Rattle.common_laws.proofs.Appended.{two_parts}
use Rattle.debugnames_write.proofs.index.push_counts.Goals as goal

pub returns : goal.returns
returns c = two_parts c.args.out.now.items _ _ c.in_ok-push_u16.ensures (two_parts c.push_u16.new.out.items _ _ c.in_ok-push_u16-2.ensures c.in_ok-push_u32s.ensures)

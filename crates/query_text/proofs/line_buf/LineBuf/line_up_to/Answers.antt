use Rattle.std.proofs.Common.{ap}
use Rattle.query_text.proofs.BufferLaws.{line_up}
use Rattle.query_text.proofs.line_buf.LineBuf.line_up_to.Goals as goal

pub returns : goal.returns
returns c =
    line_up c.self.inside.bytes.items c.self.inside.start c.self.inside.searched c.self.inside.filled c.args.self.now.part c.args.self.now.fresh (ap (λ b. b.part) c.self.view_is) (ap (λ b. b.fresh) c.self.view_is) c.deref.result.now c.args.end c.deref.ensures.value c.self.invariant.1 c.requires

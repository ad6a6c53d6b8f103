use Rattle.std.proofs.Common.{ap}
use Rattle.query_text.proofs.BufferLaws.{line_passed}
use Rattle.query_text.proofs.line_buf.LineBuf.pass_line.Goals as goal

pub returns-clause-fresh : goal.returns-clause-fresh
returns-clause-fresh c =
    line_passed c.self.inside.bytes.items c.self.inside.start c.self.inside.searched c.self.inside.filled c.args.self.now.part c.args.self.now.fresh (ap (λ b. b.part) c.self.view_is) (ap (λ b. b.fresh) c.self.view_is) c.args.end c.requires

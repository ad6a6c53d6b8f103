use Rattle.query_text.proofs.NewlineLaws.{found_is_newline}
use Rattle.query_text.proofs.line_buf.first_newline.Goals as goal

pub returns : goal.returns
returns c = found_is_newline c.args.bytes.now c.memchr.result c.memchr.ensures

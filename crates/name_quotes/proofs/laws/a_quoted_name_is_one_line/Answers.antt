use Rattle.name_quotes.proofs.QuoteLaws.{one_line}
use Rattle.name_quotes.proofs.laws.a_quoted_name_is_one_line.Goals as goal

pub returns : goal.returns
returns c = one_line

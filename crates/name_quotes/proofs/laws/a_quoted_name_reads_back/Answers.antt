use Rattle.name_quotes.proofs.QuoteLaws.{reads_back}
use Rattle.name_quotes.proofs.laws.a_quoted_name_reads_back.Goals as goal

pub returns : goal.returns
returns c = reads_back

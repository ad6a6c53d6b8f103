use Rattle.query_text.proofs.TranscriptLaws.{plain_transcripts}
use Rattle.query_text.proofs.laws.plain_sessions_are_transcripts.Goals as goal

pub returns : goal.returns
returns c = plain_transcripts

-- What a reader of a race has may go to another thread.
use denote.Ref.{NamedLft}
use denote.Param.Send.{IsSend, sendable}
use Rattle.std.proofs.Crossing.{crosses}
use Rattle.index_board.proofs.Crossing.{reader_send}
use Rattle.session_base.proofs.Crossing.{line_send}
use Rattle.race_command.specs.contracts.runner.Runner as Runner
use Rattle.race_command.specs.contracts.transcript.Transcript as Transcript

transcript_send : IsSend Transcript.the_row
transcript_send = search (sendable, crosses) depth 60 fits 60000

pub runner_send : (b l : NamedLft) → IsSend (Runner.the_row b l)
runner_send b l = search (sendable, crosses, reader_send, line_send, transcript_send) depth 60 fits 60000

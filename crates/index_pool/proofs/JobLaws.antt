-- A job that was drawn in a turn of a board.
use Rattle.std.proofs.Common.{◌≡◌, Some, Ok, ap, sym, ◌∙◌}
use Rattle.index_model.specs.Outputs.{Subject}
use Rattle.stage_core.specs.Inputs.{Handed}
use Rattle.stage_core.specs.Machines.{Machine}
use Rattle.stage_lock.specs.Seen.{Lock, Seen}
use Rattle.file_image.specs.Images.{Image, image_of}
use Rattle.index_board.specs.Turns.{Turn, drawn, next_task}
use Rattle.index_pool.specs.Jobs.{IsDrawnFrom}

-- it is drawn from a core with the board's subject
pub drawn_from : (board : Lock Subject) (image : Image) → image_of board.subject.file ≡ Ok image → (old new : Seen Machine Subject) (taken : Machine) → Turn board old new taken (drawn taken) → (task : Handed) → Some task ≡ next_task taken → IsDrawnFrom board image task
drawn_from board image image_is old new taken turn task next = record {
  drawn = record { machine = taken; reached = turn.state; image_is = ap (λ (s : Subject). image_of s.file) turn.subject ∙ image_is; next = sym next };
  subject = turn.subject;
}

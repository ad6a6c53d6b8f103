-- The board of a session: the stage that it begins at, and that a session leaves its reader on it.
use Rattle.std.proofs.Common.{◌≡◌, ℕ, ◌^◌, ◌<◌, List, length, true, Option, Result, Ok, Err, refl}
use Rattle.std.specs.Prelude.{All, OnOk, IfErr}
use Rattle.index_model.specs.Stages.{initial, IsReachable, same}
use Rattle.index_model.specs.Transcripts.{lines_of}
use Rattle.index_model.proofs.StageLaws.{closure}
use Rattle.file_image.specs.Images.{image_of}
use Rattle.index_board.specs.Boards.{first_stage, stage_at_start}
use Rattle.index_board.specs.Readers.{Reader}
use Rattle.query_text.specs.declared.fault.SessionFault.{SessionFault}
use Rattle.query_text.specs.declared.fault.SessionFault.TheVariants as faults
use Rattle.query_text.specs.Sessions.{Answers, IsShort, SessionStops, TakesUntil}
use Rattle.name_quotes.specs.declared.quote.Spelling.{Spelling}

-- a board begins at a stage that is reachable
start_reached : (r : _) → IsReachable initial (stage_at_start r)
start_reached (Ok image) = same
start_reached (Err f) = closure.by_step 0 4 refl

pub first_reached : (file : List ℕ) → IsReachable initial (first_stage file)
first_reached file = start_reached (image_of file)

-- a session stays on its board
module _ (spelling : Spelling) (s u : Option (List ℕ)) (i j : ℕ) (old new : Reader) (a c : Option (List ℕ)) (k n : ℕ) where
  same_board : (fault : SessionFault) → SessionStops spelling s u i j old new a c k n fault → new.board ≡ old.board
  same_board faults.ReadFault stop = stop.1.answers.gained.board
  same_board faults.LineTooLong stop = stop.0.answers.gained.board
  same_board faults.InputTooLong stop = stop.0.answers.gained.board
  same_board faults.WriteFault stop = stop.stops.1.answers.gained.board
  same_board faults.NoMemory stop = stop.stops.answers.gained.board

  pub board_stays : {X : Type 0} (r : Result X SessionFault) → OnOk r ((taken : List ℕ) × TakesUntil s u true taken × (length taken < 2 ^ 32) × All IsShort (lines_of taken) × Answers spelling old new a c (lines_of taken)) → IfErr r (λ fault. SessionStops spelling s u i j old new a c k n fault) → new.board ≡ old.board
  board_stays (Ok x) all stops = all.4.gained.board
  board_stays (Err fault) all stops = same_board fault stops

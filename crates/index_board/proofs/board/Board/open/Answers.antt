use Rattle.std.proofs.Common.{◌≡◌, Err, subst}
use Rattle.index_model.specs.Gives.{Stop}
use Rattle.index_model.specs.Gives.{StopsAs}
use Rattle.file_image.specs.Images.{image_of}
use Rattle.index_board.proofs.Openings.{image_early}
use Rattle.index_board.proofs.board.Board.open.Goals as goal

pub refused-requires : goal.refused-requires
refused-requires c =
    let stops : image_of c.args.file.now ≡ Err c.in-Err-Cause.fault = subst (λ (s : Stop). StopsAs s (image_of c.args.file.now)) c.in-Err-Cause.field-0-is c.in-Err-Cause.ensures in
    image_early c.args.file.now c.in-Err-Cause.fault stops

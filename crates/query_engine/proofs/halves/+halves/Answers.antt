use Rattle.std.proofs.Common.{◌+◌, length}
use Rattle.query_engine.specs.Marked.{AreLabelled}
use Rattle.query_engine.proofs.JoinLaws.{joined_labels}
use Rattle.query_engine.proofs.halves.+halves.Goals as goal

pub marks_of_halves-returns : goal.marks_of_halves-returns
marks_of_halves-returns g t c =
    let low = c.args.low.now in
    let front : AreLabelled c.args.first low c.in_ok-labelled.labelled = rw c.in_ok-labelled.was at c.join-front.ensures.first in
    let back : AreLabelled (c.args.first + length low) c.args.high.now c.in_ok-back.field-0 = rw c.in_ok-back.was at c.join-front.ensures.second in
    joined_labels c.args.first low c.args.high.now c.in_ok-labelled.labelled c.in_ok-back.field-0 c.take_in.new.self front back c.in_ok-take_in.ensures

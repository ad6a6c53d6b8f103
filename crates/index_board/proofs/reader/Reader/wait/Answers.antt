use Rattle.index_board.proofs.Waits.{stays, goes_on, last_mark, marks_made}
use Rattle.index_board.proofs.reader.Reader.wait.Goals as goal

pub loop-init : goal.loop-init
loop-init g c = stays c.args.self.now

pub loop-preserved : goal.loop-preserved
loop-preserved g c = goes_on c.args.self.now c.loop.self c.loop.invariant c.mark-seen.result c.mark-seen.ensures.mark c.mark-seen.new.self c.mark-seen.ensures.reader

pub returns-then-seen-stage-clause-marks : goal.returns-then-seen-stage-clause-marks
returns-then-seen-stage-clause-marks g c = marks_made c.args.self.now c.loop.self c.loop.invariant c.mark-seen.result c.mark-seen.ensures.mark c.mark-seen.new.self c.mark-seen.ensures.reader

pub returns-then-seen-stage-clause-last : goal.returns-then-seen-stage-clause-last
returns-then-seen-stage-clause-last g c = last_mark c.args.self.now c.loop.self c.loop.invariant c.mark-seen.result c.mark-seen.ensures.mark

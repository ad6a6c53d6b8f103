use Rattle.std.proofs.Common.{◌*◌, ◌%◌}
use Rattle.gdbindex_read.proofs.Paths.{odd_or}
use Rattle.gdbindex_read.proofs.path.Path.of_hash.Goals as goal

pub returns-clause-step : goal.returns-clause-step
returns-clause-step c = odd_or (c.args.hash * 17 % c.args.slots)

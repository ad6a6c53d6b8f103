use Rattle.std.proofs.Common.{subst}
use Rattle.shard_build.specs.Found.{IsUnitAt}
use Rattle.gdb_items.proofs.PlaceLaws.{nothing_there}
use Rattle.gdb_items.proofs.file.FileItems.at.Goals as goal

pub within-requires-clause-unit : goal.within-requires-clause-unit
within-requires-clause-unit c = subst (IsUnitAt c.args.self.now.file c.args.offset) c.in-Some.is c.unit_of.ensures.unit

pub returns-in-None-clause-value : goal.returns-in-None-clause-value
returns-in-None-clause-value c p given = nothing_there c.args.self.now.file p given c.args.offset (subst (IsUnitAt c.args.self.now.file c.args.offset) c.in-None.is c.unit_of.ensures.unit)

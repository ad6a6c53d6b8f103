use Rattle.std.proofs.Common.{Some, sym, subst}
use Rattle.file_image.specs.Images.{Image}
use Rattle.shard_build.specs.Found.{IsUnitAt}
use Rattle.gdb_items.proofs.file.FileItems.within.Goals as goal

pub known-requires-clause-unit : goal.known-requires-clause-unit
known-requires-clause-unit c = subst (λ (e : Image). IsUnitAt e.file c.args.offset (Some c.args.unit)) (sym c.read_listed.ensures) c.requires.unit

pub read_all-requires-clause-unit : goal.read_all-requires-clause-unit
read_all-requires-clause-unit c = subst (λ (e : Image). IsUnitAt e.file c.args.offset (Some c.args.unit)) (sym c.read_listed.ensures) c.requires.unit

use Rattle.std.proofs.Common.{sym, subst}
use Rattle.file_image.specs.Images.{Image}
use Rattle.gdb_index.specs.Kept.{AreKept}
use Rattle.gdb_index.proofs.names.FileNames.is_static.Goals as goal

pub invariant_of-self : goal.invariant_of-self
invariant_of-self c = subst (λ (e : Image). AreKept e.file c.self.inside.texts.now c.self.inside.steps c.self.inside.fronts) (sym c.is_static.ensures.kept) c.self.invariant

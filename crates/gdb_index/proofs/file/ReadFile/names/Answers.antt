use Rattle.std.proofs.Common.{sym, subst}
use Rattle.file_image.specs.Images.{Image}
use Rattle.gdb_index.specs.Kept.{AreTextsOf}
use Rattle.gdb_index.proofs.file.ReadFile.names.Goals as goal

pub new-requires-2 : goal.new-requires-2
new-requires-2 c = subst (λ (e : Image). AreTextsOf e.file c.self.inside.texts) (sym c.new.ensures) c.self.invariant.2

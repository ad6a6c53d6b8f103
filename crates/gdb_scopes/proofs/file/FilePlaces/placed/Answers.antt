use Rattle.std.proofs.Common.{sym, subst}
use Rattle.file_image.specs.Images.{Image}
use Rattle.gdb_scopes.specs.Units.{AllArePlaced, AreReadingsOf}
use Rattle.gdb_scopes.proofs.file.FilePlaces.placed.Goals as goal

pub invariant_of-self-in-None : goal.invariant_of-self-in-None
invariant_of-self-in-None c = subst (λ (e : Image). AreReadingsOf e.file c.self.inside.readings.now × AllArePlaced e.file c.self.inside.units) (sym c.items_of.ensures.kept) c.self.invariant

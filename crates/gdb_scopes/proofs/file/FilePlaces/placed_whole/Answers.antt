use Rattle.std.proofs.Common.{sym, subst}
use Rattle.file_image.specs.Images.{Image}
use Rattle.gdb_scopes.specs.Units.{AllArePlaced, AreReadingsOf}
use Rattle.gdb_scopes.proofs.file.FilePlaces.placed_whole.Goals as goal

pub invariant_of-self : goal.invariant_of-self
invariant_of-self c = subst (λ (e : Image). AreReadingsOf e.file c.self.inside.readings.now × AllArePlaced e.file c.self.inside.units) (sym c.all_items_of.ensures.kept) c.self.invariant

pub invariant_of-self-2 : goal.invariant_of-self-2
invariant_of-self-2 c = subst (λ (e : Image). AreReadingsOf e.file c.self.inside.readings.now × AllArePlaced e.file c.self.inside.units) (sym c.all_items_of.ensures.kept) c.self.invariant

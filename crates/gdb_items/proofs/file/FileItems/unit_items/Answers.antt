use Rattle.std.proofs.Common.{subst}
use Rattle.std.specs.Prelude.{IfOk}
use Rattle.file_image.specs.Images.{Image}
use Rattle.gdb_items.specs.Items.{AreItemsOf}
use Rattle.gdb_items.proofs.file.FileItems.unit_items.Goals as goal

pub returns-clause-items : goal.returns-clause-items
returns-clause-items c = subst (λ (e : Image). IfOk c.unit_items.result (λ items. AreItemsOf e.file c.args.unit c.args.which items.items)) c.self.view_is c.unit_items.ensures.items

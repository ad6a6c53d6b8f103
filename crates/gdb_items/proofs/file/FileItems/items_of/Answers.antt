use Rattle.std.proofs.Common.{sym, subst}
use Rattle.file_image.specs.Images.{Image}
use Rattle.gdb_items.specs.Files.{IsReadOf}
use Rattle.gdb_items.proofs.SharedLaws.{shared_is_read}
use Rattle.gdb_items.proofs.file.FileItems.items_of.Goals as goal

pub returns-in-Some-clause-value : goal.returns-in-Some-clause-value
returns-in-Some-clause-value c =
    let unit = c.args.unit in
    let read = c.in-Some.read.now in
    let own = subst (λ (e : Image). IsReadOf e.file unit read) c.self.view_is (c.self.invariant.2 unit read (sym c.in-Some.ensures.value)) in
    shared_is_read c.args.self.now.file unit read c.share.result own c.share.ensures.which c.share.ensures.items

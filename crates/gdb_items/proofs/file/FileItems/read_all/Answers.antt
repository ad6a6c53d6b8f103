use Rattle.std.proofs.Common.{◌≡◌, ◌<◌, length, Some, Ok, refl, sym, ap, subst, ◌∙◌, arith}
use Rattle.file_image.specs.Images.{Image}
use Rattle.index_model.specs.Faults.{program_of}
use Rattle.shard_build.specs.Found.{IsUnitAt}
use Rattle.gdb_items.specs.declared.which.Which.{Which}
use Rattle.gdb_items.specs.declared.which.Which.TheVariants.{All}
use Rattle.gdb_items.specs.Items.{AreItemsOf}
use Rattle.gdb_items.specs.Read.{items_in}
use Rattle.gdb_items.proofs.PlaceLaws.{offsets_rise, all_there}
use Rattle.shard_build.proofs.WalkOfUnit.{unit_with}
use Rattle.gdb_items.proofs.file.FileItems.read_all.Goals as goal

pub returns-clause-value : goal.returns-clause-value
returns-clause-value c p given =
    let im = c.self.inside.image.now in
    let file = ap (λ (e : Image). e.file) c.self.view_is in
    let is : program_of im.file ≡ Ok p = ap program_of file ∙ given in
    let unit = c.args.unit in
    let o = c.args.offset in
    let within : unit < length im.units = subst (λ (e : Image). unit < length e.units) (sym c.self.view_is) c.requires.within in
    let read = c.in_ok-read.read in
    let items = items_in read in
    let here = subst (λ (e : Image). AreItemsOf e.file unit read.which items) (sym c.self.view_is) c.in_ok-read.ensures.value in
    let are : AreItemsOf im.file unit All items = subst (λ (which : Which). AreItemsOf im.file unit which items) c.in_ok-read.ensures.which here in
    let w = unit_with im c.units-units.ensures.of_file p is unit within in
    let number : w.walk.number ≡ unit = omega (arith, w.number) in
    let rise = offsets_rise im.file p is All items w.walk w.member (are p is w.walk w.member number) in
    let at = subst (λ f. IsUnitAt f o (Some unit)) (sym file) c.requires.unit in
    all_there im.file p is All items o unit at are (λ d. refl) w.walk w.member number c.at.result (c.at.ensures rise)

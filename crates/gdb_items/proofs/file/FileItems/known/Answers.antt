use Rattle.std.proofs.Common.{◌≡◌, ◌<◌, length, Some, Ok, sym, ap, subst, ◌∙◌, arith}
use Rattle.file_image.specs.Images.{Image}
use Rattle.index_model.specs.Faults.{program_of}
use Rattle.shard_build.specs.Found.{IsUnitAt}
use Rattle.gdb_items.specs.declared.which.Which.{Which}
use Rattle.gdb_items.specs.Items.{keeps, AreItemsOf}
use Rattle.gdb_items.specs.Read.{items_in}
use Rattle.gdb_items.proofs.PlaceLaws.{offsets_rise, found_there, none_there}
use Rattle.shard_build.proofs.WalkOfUnit.{unit_with}
use Rattle.gdb_items.proofs.file.FileItems.known.Goals as goal

pub returns-in-Some : goal.returns-in-Some
returns-in-Some c p given =
    let im = c.self.inside.image.now in
    let is : program_of im.file ≡ Ok p = ap program_of (ap (λ (e : Image). e.file) c.self.view_is) ∙ given in
    let unit = c.args.unit in
    let within : unit < length im.units = subst (λ (e : Image). unit < length e.units) (sym c.self.view_is) c.requires.within in
    let read = c.in_ok-read.read.now in
    let are : AreItemsOf im.file unit read.which (items_in read) = c.self.invariant.2 unit read (sym c.in_ok-read.ensures.value) in
    let w = unit_with im c.units-units.ensures.of_file p is unit within in
    let number : w.walk.number ≡ unit = omega (arith, w.number) in
    let own = are p is w.walk w.member number in
    let rise = offsets_rise im.file p is read.which (items_in read) w.walk w.member own in
    found_there im.file p is read.which (items_in read) w.walk w.member own c.args.offset c.in-Some.item (sym (c.at.ensures rise) ∙ c.in-Some.is)

pub returns-in-All : goal.returns-in-All
returns-in-All c p given =
    let im = c.self.inside.image.now in
    let file = ap (λ (e : Image). e.file) c.self.view_is in
    let is : program_of im.file ≡ Ok p = ap program_of file ∙ given in
    let unit = c.args.unit in
    let o = c.args.offset in
    let within : unit < length im.units = subst (λ (e : Image). unit < length e.units) (sym c.self.view_is) c.requires.within in
    let read = c.in_ok-read.read.now in
    let are : AreItemsOf im.file unit read.which (items_in read) = c.self.invariant.2 unit read (sym c.in_ok-read.ensures.value) in
    let w = unit_with im c.units-units.ensures.of_file p is unit within in
    let number : w.walk.number ≡ unit = omega (arith, w.number) in
    let rise = offsets_rise im.file p is read.which (items_in read) w.walk w.member (are p is w.walk w.member number) in
    let at = subst (λ f. IsUnitAt f o (Some unit)) (sym file) c.requires.unit in
    none_there im.file p is read.which (items_in read) o unit at are (λ d. ap (λ (x : Which). keeps x d.item) c.in-All.is) (sym (c.at.ensures rise) ∙ c.in-None.is)

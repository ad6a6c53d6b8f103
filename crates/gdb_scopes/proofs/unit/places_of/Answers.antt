use Rattle.std.proofs.Common.{◌≡◌, Ok, refl, ap, ◌∙◌}
use Rattle.file_image.specs.Images.{Image}
use Rattle.index_model.specs.Faults.{program_of}
use Rattle.gdb_scopes.specs.Places.{unit_read}
use Rattle.gdb_scopes.proofs.WalkLaws.{begins, ends, of_a_file, one_told}
use Rattle.gdb_scopes.proofs.unit.places_of.Goals as goal

pub loop-item-init : goal.loop-item-init
loop-item-init c = record {
  same = refl;
  goes = λ p is w which wc read are.
      begins p c.args.class w which c.new-reached.result c.new-places.result.items c.args.items.now (c.new-reached.ensures (unit_read p c.args.class w) refl) c.new-places.ensures.items are;
}

pub loop-item-preserved : goal.loop-item-preserved
loop-item-preserved c = record {
  same = c.place_of.ensures.kept ∙ c.loop-item.invariant.same;
  goes = λ p is w which wc read are.
      let here : program_of c.loop-item.file.file ≡ Ok p = ap (λ (e : Image). program_of e.file) c.loop-item.invariant.same ∙ is in
      one_told p c.args.class w which (of_a_file c.args.file.now.file p is w wc) c.loop-item.reached c.loop-item.places.items c.args.items.now c.loop-item.item-index _ c.loop-item-test.true
      (c.loop-item.invariant.goes p is w which wc read are)
      c.place_of.new.reached c.in_ok-place_of.field-0 c.push.new.self.items
      (λ passed d stands behind h. c.in_ok-place_of.ensures.is p here w passed d read stands behind h)
      (λ passed d stands behind h. c.in_ok-place_of.ensures.stands p here w passed d read stands behind h)
      c.in_ok-push.ensures.items;
}

pub returns-clause-value : goal.returns-clause-value
returns-clause-value c p is w which wc read are =
    ends p c.args.class w which c.loop-item.reached c.loop-item.places.items c.args.items.now c.loop-item.item-index c.loop-item-test.false (c.loop-item.invariant.goes p is w which wc read are)

use Rattle.std.proofs.Common.{◌≡◌, Ok, refl, ap, ◌∙◌}
use Rattle.file_image.specs.Images.{Image}
use Rattle.index_model.specs.Faults.{program_of}
use Rattle.gdb_index.proofs.UnitLaws.{lists_all, lists_none, lists_one}
use Rattle.gdb_index.proofs.unit.list_items.Goals as goal

pub loop-item-init : goal.loop-item-init
loop-item-init c = record {
  same = refl;
  lists = λ p is owner ds number are. lists_none p owner c.args.reading.class ds c.args.entries.now.items c.args.items.now are;
}

pub loop-item-preserved : goal.loop-item-preserved
loop-item-preserved c = record {
  same = c.list_item.ensures.kept ∙ c.loop-item.invariant.same;
  lists = λ p is owner ds number are.
      let here : program_of c.loop-item.names.file ≡ Ok p = ap (λ (e : Image). program_of e.file) c.loop-item.invariant.same ∙ is in
      lists_one p owner c.args.reading.class ds c.args.entries.now.items c.loop-item.entries.items c.args.items.now c.loop-item.item-index _ c.loop-item-test.true
      (c.loop-item.invariant.lists p is owner ds number are)
      c.list_item.new.entries.items (λ d own. c.in_ok-list_item.ensures.value p here owner d number own);
}

pub returns-clause-value : goal.returns-clause-value
returns-clause-value c p is owner ds number are =
    lists_all p owner c.args.reading.class ds c.args.entries.now.items c.loop-item.entries.items c.args.items.now c.loop-item.item-index c.loop-item-test.false (c.loop-item.invariant.lists p is owner ds number are)

pub returns-in_err-list_item-clause-kept : goal.returns-in_err-list_item-clause-kept
returns-in_err-list_item-clause-kept c = c.list_item.ensures.kept ∙ c.loop-item.invariant.same

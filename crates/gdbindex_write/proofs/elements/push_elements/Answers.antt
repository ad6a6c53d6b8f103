use Rattle.std.proofs.Common.{◌<◌, length, get_or, sym, subst, ◌∙◌}
use Rattle.index_model.specs.declared.entry.Entry.{Entry}
use Rattle.gdbindex_write.proofs.ElementLaws.{elements_more}
use Rattle.gdbindex_write.proofs.elements.push_elements.Goals as goal

pub push_element-requires : goal.push_element-requires
push_element-requires c =
    let place = get_or c.args.places.now c.loop-place.place-index 0 in
    let within = c.requires.places c.loop-place.place-index 0 c.loop-place-test.true in
    record {
      small = c.requires.small;
      unit = subst (λ (e : Entry). e.unit < length c.args.numbers.now) (sym c.index-entries-place.is) (c.requires.units place c.index-entries-place.result within);
    }

pub loop-place-preserved : goal.loop-place-preserved
loop-place-preserved c =
    let i = c.loop-place.place-index in
    let lt = c.loop-place-test.true in
    c.in_ok-push_element.ensures ∙ elements_more c.args.numbers.now c.args.entries.now c.args.places.now i lt c.index-entries-place.result (c.requires.places i 0 lt) c.index-entries-place.is c.args.elements.now.items c.loop-place.elements.items c.loop-place.invariant

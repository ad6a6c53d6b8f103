use Rattle.std.proofs.Common.{◌≡◌, length, sym, ap, ◌∙◌}
use Rattle.std.specs.Prelude.{sum_by}
use Rattle.index_model.specs.Answers.{places}
use Rattle.query_engine.specs.Listed.{is_listed, names_of}
use Rattle.index_model.specs.NameIndex.{all_indexed}
use Rattle.debugnames_write.specs.Counts.{count_of}
use Rattle.debugnames_write.specs.Items.{AreItemsOf}
use Rattle.debugnames_write.proofs.ItemLaws.{table_sorted}
use Rattle.debugnames_write.proofs.PartLaws.{sum_is}
use Rattle.debugnames_write.proofs.listed.sorted_items.Goals as goal

pub invariant_of-part : goal.invariant_of-part
invariant_of-part g c =
    let es = c.args.table.now in
    let own = c.in_ok-listed.ensures.own in
    let sum = sum_is (λ t. places (is_listed t) es) c.in_ok-listed.listed.names.items own.counts in
    let size : sum_by count_of c.in_ok-listed.listed.names.items ≡ length c.in_ok-listed.listed.places.items = sum ∙ sym (ap (λ w. length w) own.are) in
    record { fits = rw (c.deref.ensures.value, c.deref-2.ensures.value) size }

pub returns : goal.returns
returns g c =
    let made : AreItemsOf (all_indexed c.args.units.now c.args.table.now) (names_of c.in_ok-listed.listed.names.items) c.in_ok-items_by_halves.field-0 = rw (← c.deref.ensures.value, ← c.entries.ensures.all) c.in_ok-items_by_halves.ensures in
    table_sorted c.args.units.now c.args.table.now c.in_ok-listed.listed c.in_ok-items_by_halves.field-0 c.in_ok-listed.ensures made

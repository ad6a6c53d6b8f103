use Rattle.index_model.specs.NameIndex.{all_indexed}
use Rattle.debugnames_write.proofs.ItemLaws.{items_join}
use Rattle.debugnames_write.proofs.PartLaws.{high_part, low_part}
use Rattle.debugnames_write.proofs.halves.+halves.Goals as goal

pub items_by_halves-items_of_halves-requires-clause-low_part : goal.items_by_halves-items_of_halves-requires-clause-low_part
items_by_halves-items_of_halves-requires-clause-low_part g t c κs within =
    low_part c.args.source.now c.args.part c.halves.result.0 c.halves.result.1 c.requires c.halves.ensures.names c.halves.ensures.places

pub items_by_halves-items_of_halves-requires-clause-high_part : goal.items_by_halves-items_of_halves-requires-clause-high_part
items_by_halves-items_of_halves-requires-clause-high_part g t c κs within =
    high_part c.args.source.now c.args.part c.halves.result.0 c.halves.result.1 c.requires c.halves.ensures.names c.halves.ensures.places

pub items_of_halves-returns : goal.items_of_halves-returns
items_of_halves-returns g t c =
    let all = all_indexed c.args.source.now.units.now c.args.source.now.entries.now in
    let front = rw c.in_ok-listed.was at c.join-front.ensures.first in
    let back = rw c.in_ok-behind.was at c.join-front.ensures.second in
    items_join all c.args.low.names.now c.args.high.names.now c.in_ok-listed.listed c.in_ok-behind.behind _ front back c.in_ok-append.ensures.items c.in_ok-append-2.ensures.items

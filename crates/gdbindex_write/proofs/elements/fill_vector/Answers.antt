use Rattle.std.proofs.Common.{eqb, nat_lt, ◌++◌, ap, ◌∙◌}
use Rattle.std.proofs.lemmas.List.Filters.{dedup_is}
use Rattle.index_model.specs.Answers.{entries_at}
use Rattle.index_model.specs.Ordered.{ascending}
use Rattle.gdbindex_write.specs.Elements.{elements_by}
use Rattle.gdbindex_write.proofs.ElementLaws.{ascending_left}
use Rattle.gdbindex_write.proofs.elements.fill_vector.Goals as goal

pub returns : goal.returns
returns c =
    let filled = c.push_elements.new.elements.items in
    let sorted = c.sort_unstable.new.self.items in
    let all = elements_by c.args.numbers.now (entries_at c.args.entries.now c.args.places.now) in
    let own = c.in_ok-push_elements.ensures ∙ ap (λ w. w ++ all) c.clear.ensures.items in
    dedup_is eqb sorted c.dedup.new.self.items c.dedup.ensures.filtered ∙ ascending_left filled sorted c.sort_unstable.ensures.permutation c.sort_unstable.ensures.sorted ∙ ap (ascending nat_lt) own

use Rattle.std.proofs.Common.{option_map, ap, sym, ◌∙◌, arith}
use Rattle.index_model.proofs.FirstSome.{first_from_point}
use Rattle.index_model.proofs.languages.first_node.Goals as goal

pub returns : goal.returns
returns c rise =
    let nodes = c.args.nodes.now in
    let unit = c.args.unit in
    let n = c.count_of_units_before.result in
    let point = c.count_of_units_before.ensures.parted rise in
    c.offset_at.ensures ∙ ap (option_map (λ d. d.facts.offset)) (sym (first_from_point unit nodes n (λ k d lt. point.0 k d (omega arith) lt) (λ k d le lt. point.1 k d le lt)))

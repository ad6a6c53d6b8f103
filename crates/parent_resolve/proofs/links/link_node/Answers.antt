use Rattle.std.proofs.Common.{◌≡◌, Bool, true, false, sym, ap, subst, ◌∙◌, rules}
use Rattle.index_model.specs.Program.{items_of}
use Rattle.index_model.specs.Rules.{is_ada, is_visited}
use Rattle.index_model.specs.Shards.{AreShardsOf}
use Rattle.parent_resolve.proofs.NodeLinks.{both, follows, in_its_table, kept_is, kept_there, not_visited, skips}
use Rattle.parent_resolve.proofs.NodeLaws.{node_unit}
use Rattle.parent_resolve.proofs.links.link_node.Goals as goal

pub returns-then-not-is_visited-clause-value : goal.returns-then-not-is_visited-clause-value
returns-then-not-is_visited-clause-value c own p run file are is_run stands d kept node =
    let there = kept_there p run is_run d kept in
    let class = c.class_of-class.ensures.value c.args.paths.now.image.file p file (subst (AreShardsOf p) own are) d.home there.1 (sym (node_unit p.sections c.args.node.now d node)) in
    let ada = c.is_ada.ensures ∙ ap is_ada class in
    let visited = c.is_visited.ensures c.args.paths.now.image.file p run file is_run stands d kept node ada ∙ ap (λ (b : Bool). is_visited b (items_of d.home) d.item) ada in
    let off : c.is_visited.result ≡ false = search rules in
    skips p d (not_visited p d (sym visited ∙ off))

pub returns-clause-value : goal.returns-clause-value
returns-clause-value c own p run file are is_run stands d kept node =
    let there = kept_there p run is_run d kept in
    let class = c.class_of-class.ensures.value c.args.paths.now.image.file p file (subst (AreShardsOf p) own are) d.home there.1 (sym (node_unit p.sections c.args.node.now d node)) in
    let ada = c.is_ada.ensures ∙ ap is_ada class in
    let visited = c.is_visited.ensures c.args.paths.now.image.file p run file is_run stands d kept node ada ∙ ap (λ (b : Bool). is_visited b (items_of d.home) d.item) ada in
    let on : c.is_visited.result ≡ true = search rules in
    follows p d (both p d (in_its_table p d _ (kept_is run d kept) (sym visited ∙ on)) (sym visited ∙ on)) c.link_entry.result (c.link_entry.ensures.value p file d there.2 node class)

use Rattle.std.proofs.Common.{◌≡◌, ◌+◌, ◌<◌, [], List, drop, filter, get_or, length, Result, Err, ap, sym, subst, ◌∙◌, arith}
use Rattle.std.proofs.lemmas.List.{drop_all}
use Rattle.std.proofs.lemmas.Result.{err_from_is_err_and}
use Rattle.ix_base.specs.declared.fault.Fault.{Fault}
use Rattle.index_model.specs.declared.range.Range.{Range}
use Rattle.index_model.specs.declared.shard.Node.{Node}
use Rattle.range_lists.specs.declared.found.FoundRanges.{FoundRanges}
use Rattle.range_lists.specs.Found.{IsAdded}
use Rattle.range_lists.specs.Homes.{unit_with}
use Rattle.range_lists.specs.Nodes.{node_ranges, all_node_ranges, is_linked_subprogram}
use Rattle.range_lists.proofs.Reading.{before}
use Rattle.range_lists.proofs.Refusals.{stopped_at}
use Rattle.range_lists.proofs.Walking.{SoFar, skipped, added, failed, none_yet, one_further, all_added, value_in}
use Rattle.range_lists.proofs.home.RangeUnit.add_subprograms.Goals as goal
use Rattle.range_lists.proofs.home.RangeUnit.add_subprograms.Goals.{then-is_linked_subprogram+in_ok-add_node, else-is_linked_subprogram}

pub loop-k-init : goal.loop-k-init
loop-k-init c rise read = none_yet c.args.self.now.sections.now c.args.self.now.number c.args.found.now read _

pub loop-k-preserved : goal.loop-k-preserved
loop-k-preserved c rise read =
    let ss = c.args.self.now.sections.now in
    let unit = c.args.self.now.number in
    let w = unit_with c.args.self.now in
    let test = is_linked_subprogram c.args.entries.now in
    let nodes = c.args.nodes.now in
    let i = c.loop-k.k in
    let node = c.node-node.result in
    let at : get_or nodes i node ≡ node = sym c.node-node.ensures in
    let within : i < length nodes = omega (arith, c.loop-k-test.true, c.len-k-end.ensures) in
    let all = all_node_ranges ss w (filter test nodes) in
    let rest = all_node_ranges ss w (filter test (drop i nodes)) in
    let later = all_node_ranges ss w (filter test (drop (i + 1) nodes)) in
    let s : SoFar ss unit c.args.found.now c.loop-k.found all rest = c.loop-k.invariant rise read in
    elim c.if-is_linked_subprogram.branch [
      | then-is_linked_subprogram+in_ok-add_node b ↦
          let new = b.add_node.new.found in
          let own = value_in (node_ranges ss w node) (IsAdded ss unit c.loop-k.found new) (b.in_ok-add_node.ensures s.added.read) in
          let more = added ss w test nodes i node within s.front _ (ap test at ∙ sym (c.is_linked_subprogram.ensures rise) ∙ b.if-is_linked_subprogram.true) (ap (λ (n : Node). before s.front (node_ranges ss w n)) at ∙ ap (before s.front) own.1) in
          subst (λ (f : FoundRanges). SoFar ss unit c.args.found.now f all later) (sym b.found-is) (one_further ss unit c.args.found.now c.loop-k.found new all rest later s own.0 more own.2)
      | else-is_linked_subprogram b ↦
          let same : rest ≡ later = ap (λ ns. all_node_ranges ss w ns) (skipped ss w test nodes i node within (ap test at ∙ sym (c.is_linked_subprogram.ensures rise) ∙ b.if-is_linked_subprogram.false)) in
          subst (λ (f : FoundRanges). SoFar ss unit c.args.found.now f all later) (sym b.found-is) (subst (λ (r : Result (List Range) Fault). SoFar ss unit c.args.found.now c.loop-k.found all r) same s)
    ]

pub returns-in_err-add_node : goal.returns-in_err-add_node
returns-in_err-add_node c rise read =
    let ss = c.args.self.now.sections.now in
    let w = unit_with c.args.self.now in
    let test = is_linked_subprogram c.args.entries.now in
    let nodes = c.args.nodes.now in
    let i = c.loop-k.k in
    let node = c.node-node.result in
    let at : get_or nodes i node ≡ node = sym c.node-node.ensures in
    let within : i < length nodes = omega (arith, c.loop-k-test.true, c.len-k-end.ensures) in
    let s = c.loop-k.invariant rise read in
    let p = err_from_is_err_and c.from_residual.result c.from_residual.ensures.1 in
    stopped_at _ _ _ _ c.in_err-add_node.field-0.0 (p.1 ∙ ap Err p.2) (c.in_err-add_node.ensures s.added.read)
    (λ e is. s.all_is ∙ failed ss w test nodes i node within s.front e (ap test at ∙ sym (c.is_linked_subprogram.ensures rise) ∙ c.if-is_linked_subprogram.true) (ap (λ (n : Node). before s.front (node_ranges ss w n)) at ∙ ap (before s.front) is))

pub returns : goal.returns
returns c rise read =
    let ss = c.args.self.now.sections.now in
    let w = unit_with c.args.self.now in
    let test = is_linked_subprogram c.args.entries.now in
    let nodes = c.args.nodes.now in
    let none : drop c.loop-k.k nodes ≡ [] = drop_all c.loop-k.k nodes (omega (arith, c.loop-k-test.false, c.len-k-end.ensures)) in
    all_added ss c.args.self.now.number c.args.found.now c.loop-k.found _ _ (c.loop-k.invariant rise read) (ap (λ (ns : List Node). all_node_ranges ss w (filter test ns)) none)

use Rattle.std.proofs.Common.{List, Result, sym, ap, subst, ◌∙◌}
use Rattle.std.proofs.lemmas.Option.{same_Some}
use Rattle.std.specs.Prelude.{option_and_then}
use Rattle.index_model.specs.declared.shard.Root.{Root}
use Rattle.index_model.specs.Attributes.{as_address}
use Rattle.index_model.specs.Sections.{Section}
use Rattle.ix_base.specs.declared.fault.Fault.{Fault}
use Rattle.index_model.specs.declared.range.Range.{Range}
use Rattle.index_model.specs.Gives.{GivesFor}
use Rattle.range_lists.specs.declared.home.RangeUnit.{RangeUnit}
use Rattle.range_lists.specs.Found.{AreRead, IsAdded}
use Rattle.range_lists.specs.Homes.{as_value, unit_with}
use Rattle.range_lists.specs.Nodes.{all_node_ranges, nodes_with_ranges, EntriesRise}
use Rattle.range_lists.specs.Units.{facts_in, first_low, unit_nodes}
use Rattle.range_lists.proofs.Alike.{home_alike, moved}
use Rattle.range_lists.proofs.unit.add_in_run.Goals as goal

pub returns-clause-ranges : goal.returns-clause-ranges
returns-clause-ranges c read w k =
    let header = same_Some _ _ (sym c.in-Some-Some.is-0 ∙ c.header_of.ensures.value ∙ k.header) in
    let root = same_Some _ _ (sym c.in-Some-Some.is-1 ∙ c.root_in.ensures ∙ k.root) in
    let nodes = c.of-nodes.ensures k.nodes in
    let low = c.first_low.ensures ∙ ap first_low nodes in
    let rise = subst EntriesRise (sym c.as_slice.ensures) k.entries in
    let home : RangeUnit = record { sections = c.sections.result; number = c.args.unit; header = c.in-Some-Some.header; addr_base = c.in-Some-Some.root.addr_base; rnglists_base = c.in-Some-Some.root.rnglists_base; low = c.first_low.result } in
    let own = c.add_nodes.ensures rise (subst (λ (ss : List Section). AreRead ss c.args.found.now) (sym c.sections.ensures.value) read) in
    moved (λ (m : Result (List Range) Fault). GivesFor (λ _. IsAdded c.args.image.now.sections c.args.unit c.args.found.now c.add_nodes.new.found) c.add_nodes.result m) c.sections.result.now c.args.image.now.sections home w c.of-nodes.result (unit_nodes c.args.unit (facts_in c.args.shard.now.nodes)) c.as_slice.result.now c.args.linked.now.entries c.sections.ensures.value
    (home_alike home w header (ap (λ (r : Root). r.addr_base) root) (ap (λ (r : Root). r.rnglists_base) root) (k.low ∙ ap (option_and_then (λ r. as_address (as_value r))) (sym low)))
    nodes c.as_slice.ensures (subst (λ (ss : List Section). GivesFor (λ _. IsAdded ss c.args.unit c.args.found.now c.add_nodes.new.found) c.add_nodes.result (all_node_ranges c.sections.result.now (unit_with home) (nodes_with_ranges c.as_slice.result.now c.of-nodes.result))) c.sections.ensures.value own)

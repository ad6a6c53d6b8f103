use Rattle.std.proofs.Common.{ℕ, subst}
use Rattle.index_model.specs.declared.unit.Unit.{Unit as UnitHeader}
use Rattle.shard_build.specs.Small.{IsSmallNode}
use Rattle.shard_build.proofs.SmallLaws.{added_small}
use Rattle.shard_build.proofs.kept.add_node_with_texts.Goals as goal

pub returns-then-branch-clause-value : goal.returns-then-branch-clause-value
returns-then-branch-clause-value c =
    let home = c.args.home.now in
    let u : ℕ × UnitHeader = (home.number, home.unit) in
    let small = subst (λ parent. IsSmallNode home.sections.now u parent c.args.entry.now c.in-Some.small) c.offset_of.ensures c.in-Some.ensures in
    added_small home.sections.now u c.args.outer c.args.entry.now c.in-Some.small c.args.base c.args.nodes.now c.push_small.new.self c.in_ok-push_small.field-0 small c.requires.strings c.if-branch.true c.in_ok-push_small.ensures

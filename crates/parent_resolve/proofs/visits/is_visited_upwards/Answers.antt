use Rattle.std.proofs.Common.{ℕ, true, false, subst, sym, ap, ◌∙◌, arith}
use Rattle.std.specs.Prelude.{is_some}
use Rattle.parent_resolve.proofs.VisitLaws.{Climbs, for_each, none_above, unkept, root_above, closed, onwards, none_says, start, rising}
use Rattle.parent_resolve.proofs.visits.is_visited_upwards.Goals as goal

pub loop-parent-init : goal.loop-parent-init
loop-parent-init c =
    let s = c.args.shard.now in
    let node = c.args.node.now in
    (omega (arith, c.len-before.ensures), λ d h. subst (λ (k : ℕ). Climbs c.args.ada s.nodes d node.parent k) (sym c.len-before.ensures) (start s node c.args.ada d h))

pub returns-in_default-node_at : goal.returns-in_default-node_at
returns-in_default-node_at c = for_each c.args.shard.now c.args.node.now c.args.ada _ (λ d h.
    let s = c.args.shard.now in
    let none = c.node_at.ensures.none (ap is_some c.in_default-node_at.is) (rising s c.args.node.now c.args.ada d h) in
    unkept s c.args.node.now c.args.ada d h c.loop-parent.parent c.loop-parent.before (c.loop-parent.invariant.1 d h) c.in-Some.offset c.in-Some.is none)

pub returns-then-is_none : goal.returns-then-is_none
returns-then-is_none c = for_each c.args.shard.now c.args.node.now c.args.ada _ (λ d h.
    let s = c.args.shard.now in
    let a = c.in-Some-node_at.above in
    let f = c.in-Some-node_at.ensures.found in
    root_above s c.args.node.now c.args.ada d h c.loop-parent.parent c.loop-parent.before (c.loop-parent.invariant.1 d h) c.in-Some.offset c.in-Some.is c.in-Some-node_at.place a f.within f.is f.offset (none_says a.parent _ true c.is_none.ensures c.if-is_none.true))

pub returns-then-not-visited : goal.returns-then-not-visited
returns-then-not-visited c = for_each c.args.shard.now c.args.node.now c.args.ada _ (λ d h.
    let s = c.args.shard.now in
    let a = c.in-Some-node_at.above in
    let f = c.in-Some-node_at.ensures.found in
    closed s c.args.node.now c.args.ada d h c.loop-parent.parent c.loop-parent.before (c.loop-parent.invariant.1 d h) c.in-Some.offset c.in-Some.is c.in-Some-node_at.place a f.within f.is f.offset (none_says a.parent _ false c.is_none.ensures c.if-is_none.false) (sym c.visited.ensures ∙ c.if-not-visited.true))

pub loop-parent-preserved : goal.loop-parent-preserved
loop-parent-preserved c =
    let s = c.args.shard.now in
    let a = c.in-Some-node_at.above in
    let f = c.in-Some-node_at.ensures.found in (
      omega (arith, f.within),
      λ d h.
          onwards s c.args.node.now c.args.ada d h c.loop-parent.parent c.loop-parent.before (c.loop-parent.invariant.1 d h) c.in-Some.offset c.in-Some.is c.in-Some-node_at.place a f.within f.is f.offset (none_says a.parent _ false c.is_none.ensures c.if-is_none.false) (sym c.visited.ensures ∙ c.if-not-visited.false),
    )

pub loop-parent-smaller : goal.loop-parent-smaller
loop-parent-smaller c = omega (arith, c.in-Some-node_at.ensures.found.early)

pub returns : goal.returns
returns c = for_each c.args.shard.now c.args.node.now c.args.ada _ (λ d h. none_above c.args.shard.now c.args.node.now c.args.ada d h c.loop-parent.parent c.loop-parent.before (c.loop-parent.invariant.1 d h) c.in_default.is)

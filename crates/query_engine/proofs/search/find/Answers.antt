use Rattle.std.proofs.Common.{◌≡◌, ℕ, ◌+◌, ◌-◌, ◌/◌, length, sym, ◌∙◌, arith}
use Rattle.std.specs.declared.cmp.Ordering.TheVariants.{Less, Greater}
use Rattle.query_engine.specs.Sorted.{name_at}
use Rattle.query_engine.proofs.TextOrder.{text_cmp, equal_is_same}
use Rattle.query_engine.proofs.SearchLaws.{IsHalved, between_upper, between_lower, halved_more, adds_halvings}
use Rattle.query_engine.proofs.search.find.Goals as goal

pub loop-low-preserved-in-Less : goal.loop-low-preserved-in-Less
loop-low-preserved-in-Less g c =
    let es = c.args.entries.now in
    let n = c.args.names.now in
    let text = c.new-asked.result.bytes.now in
    let low = c.loop-low.low in
    let high = c.loop-low.high in
    let middle : ℕ = low + (high - low) / 2 in
    let inv = c.loop-low.invariant in
    let order : text_cmp (name_at es n middle) text ≡ Less = sym c.in-Less.ensures.order in
    record {
      between = between_upper es n text c.requires.names low high middle (omega arith) (omega arith) inv.between order;
      halved = rw c.compare.ensures.counted (halved_more (length n.groups.items) c.args.steps.now c.loop-low.steps (high - low) (high - (middle + 1)) (omega arith) (omega arith) inv.halved);
    }

pub loop-low-preserved : goal.loop-low-preserved
loop-low-preserved g c =
    let es = c.args.entries.now in
    let n = c.args.names.now in
    let text = c.new-asked.result.bytes.now in
    let low = c.loop-low.low in
    let high = c.loop-low.high in
    let middle : ℕ = low + (high - low) / 2 in
    let inv = c.loop-low.invariant in
    let order : text_cmp (name_at es n middle) text ≡ Greater = sym c.in-Greater.ensures.order in
    record {
      between = between_lower es n text c.requires.names low high middle (omega arith) (omega arith) inv.between order;
      halved = rw c.compare.ensures.counted (halved_more (length n.groups.items) c.args.steps.now c.loop-low.steps (high - low) (middle - low) (omega arith) (omega arith) inv.halved);
    }

pub returns-in-Equal-clause-found : goal.returns-in-Equal-clause-found
returns-in-Equal-clause-found g c =
    let es = c.args.entries.now in
    let n = c.args.names.now in
    let text = c.new-asked.result.bytes.now in
    let low = c.loop-low.low in
    let high = c.loop-low.high in
    let middle : ℕ = low + (high - low) / 2 in
    (omega (arith, c.loop-low.invariant.between.within), equal_is_same (name_at es n middle) text (sym c.in-Equal.ensures.order) ∙ c.new-asked.ensures)

pub returns-in-Equal-clause-steps : goal.returns-in-Equal-clause-steps
returns-in-Equal-clause-steps g c =
    let n = c.args.names.now in
    let left = c.loop-low.high - c.loop-low.low in
    let halved : IsHalved (length n.groups.items) c.args.steps.now (c.loop-low.steps + 1) 0 = halved_more (length n.groups.items) c.args.steps.now c.loop-low.steps left 0 (omega arith) (omega arith) c.loop-low.invariant.halved in
    rw c.compare.ensures.counted (adds_halvings (length n.groups.items) c.args.steps.now (c.loop-low.steps + 1) 0 halved)

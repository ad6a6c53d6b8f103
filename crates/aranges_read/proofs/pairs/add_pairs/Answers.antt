use Rattle.std.proofs.Common.{◌++◌, List, sym, ap, ◌∙◌}
use Rattle.index_model.specs.declared.range.Range.{Range}
use Rattle.reach_model.specs.AddressSets.{pairs_in}
use Rattle.aranges_read.specs.Sets.{of_unit, pair_seen, with_pairs}
use Rattle.aranges_read.proofs.PairSteps.{at_none, at_end, at_pair}
use Rattle.aranges_read.proofs.pairs.add_pairs.Goals as goal

pub returns-then-is_end : goal.returns-then-is_end
returns-then-is_end c = sym c.loop-pair.invariant ∙ at_end c.args.unit c.args.place c.loop-pair.ranges.items c.loop-pair.cursor (pair_seen c.in-Some.pair) c.read.new.cursor c.in-Some.ensures.value (sym c.if-is_end.ensures)

pub loop-pair-preserved : goal.loop-pair-preserved
loop-pair-preserved c =
    let next = at_pair c.args.unit c.args.place c.loop-pair.ranges.items c.loop-pair.cursor (pair_seen c.in-Some.pair) c.read.new.cursor c.in-Some.ensures.value (sym c.if-is_end.ensures) in
    rw c.in_ok-add_range.ensures (
    ap (λ (rs : List Range). with_pairs (c.loop-pair.ranges.items ++ of_unit c.args.unit rs) c.args.unit c.args.place (pairs_in c.read.new.cursor.rest)) c.range.ensures
    ∙ sym next ∙ c.loop-pair.invariant)

pub returns : goal.returns
returns c = sym c.loop-pair.invariant ∙ at_none c.args.unit c.args.place c.loop-pair.ranges.items c.loop-pair.cursor c.in_default.ensures.value

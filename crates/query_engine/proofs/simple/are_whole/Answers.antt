use Rattle.std.proofs.Common.{List, subst, arith}
use Rattle.std.specs.Prelude.{All}
use Rattle.std.proofs.lemmas.List.{take_all}
use Rattle.std.proofs.lemmas.List.Elements.{All-more}
use Rattle.query_engine.specs.declared.label.Label.{Label}
use Rattle.query_engine.specs.Labels.{IsWholeLabel}
use Rattle.query_engine.proofs.simple.are_whole.Goals as goal

abbrev Whole : Label → Type 0
Whole l = IsWholeLabel l.linkage l.tail l.name.now

pub loop-label-preserved : goal.loop-label-preserved
loop-label-preserved c =
    All-more Whole c.args.labels.now c.loop-label.label-index c.label-item.result c.loop-label-test.true c.loop-label.invariant (rw (← c.label-item.is) (c.is_whole.ensures c.if-not-is_whole.false))

pub returns : goal.returns
returns c holds = subst (λ (ls : List Label). All Whole ls) (take_all c.loop-label.label-index c.args.labels.now (omega (arith, c.loop-label-test.false))) c.loop-label.invariant

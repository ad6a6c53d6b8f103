use Rattle.std.proofs.Common.{◌∙◌, sym, arith}
use Rattle.file_image.proofs.NamedPlaces.{named_here, named_later, none_named}
use Rattle.file_image.proofs.found.index_named.Goals as goal

pub returns-then-eq : goal.returns-then-eq
returns-then-eq c = sym (named_here c.args.found.now c.args.name.now c.loop-index.index _ (omega (arith, c.loop-index-test.true)) (sym c.eq.ensures ∙ c.if-eq.true)) ∙ c.loop-index.invariant

pub loop-index-preserved : goal.loop-index-preserved
loop-index-preserved c = sym (named_later c.args.found.now c.args.name.now c.loop-index.index _ (omega (arith, c.loop-index-test.true)) (sym c.eq.ensures ∙ c.if-eq.false)) ∙ c.loop-index.invariant

pub returns : goal.returns
returns c = sym (none_named c.args.found.now c.args.name.now c.loop-index.index (omega (arith, c.loop-index-test.false))) ∙ c.loop-index.invariant

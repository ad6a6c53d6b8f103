use Rattle.std.proofs.Common.{sym, ◌∙◌}
use Rattle.debugnames_read.specs.Names.{is_named}
use Rattle.debugnames_read.proofs.HitLaws.{left_here, left_more, left_none}
use Rattle.debugnames_read.proofs.names.IndexTables.first.Goals as goal

pub returns-then-is_named : goal.returns-then-is_named
returns-then-is_named c = sym (sym c.loop-number.invariant ∙ left_here (is_named c.args.self.now c.args.sought.now.name.now) c.loop-number.number c.args.span.to c.loop-number-test.true (sym c.is_named.ensures ∙ c.if-is_named.true))

pub loop-number-preserved : goal.loop-number-preserved
loop-number-preserved c = sym (left_more (is_named c.args.self.now c.args.sought.now.name.now) c.loop-number.number c.args.span.to c.loop-number-test.true (sym c.is_named.ensures ∙ c.if-is_named.false)) ∙ c.loop-number.invariant

pub returns : goal.returns
returns c = sym (sym c.loop-number.invariant ∙ left_none (is_named c.args.self.now c.args.sought.now.name.now) c.loop-number.number c.args.span.to c.loop-number-test.false)

use Rattle.std.proofs.Common.{sym, ap, ◌∙◌}
use Rattle.std.specs.Prelude.{find, ◌==◌}
use Rattle.index_model.specs.Walk.{Item, Walk, items}
use Rattle.entry_scan.proofs.SpanAt.{place, before, past, inside}
use Rattle.entry_scan.proofs.inside.item_at.Goals as goal
use Rattle.entry_scan.proofs.inside.item_at.Goals.{then-offset-span-via-then-offset-span, then-offset-span-via-else-offset-span+then-offset-span-2}

pub returns-then-offset-span : goal.returns-then-offset-span
returns-then-offset-span c =
    elim c.then-offset-span.branch [
      | then-offset-span-via-then-offset-span w ↦ sym (before c.args.unit.now c.args.abbrevs.now c.args.bytes.now c.args.span.now c.requires.header c.requires.span c.args.offset w.if-offset-span.true)
      | then-offset-span-via-else-offset-span+then-offset-span-2 w ↦ sym (past c.args.unit.now c.args.abbrevs.now c.args.bytes.now c.args.span.now c.requires.header c.requires.span c.args.offset w.if-offset-span-2.true)
    ]

pub inside-walk-requires-clause-begins : goal.inside-walk-requires-clause-begins
inside-walk-requires-clause-begins c = (place c.args.unit.now c.args.abbrevs.now c.args.bytes.now c.args.span.now c.requires.header c.requires.span).0

pub inside-walk-requires-clause-ends : goal.inside-walk-requires-clause-ends
inside-walk-requires-clause-ends c = (place c.args.unit.now c.args.abbrevs.now c.args.bytes.now c.args.span.now c.requires.header c.requires.span).1

pub inside-walk-requires-clause-deep : goal.inside-walk-requires-clause-deep
inside-walk-requires-clause-deep c = (place c.args.unit.now c.args.abbrevs.now c.args.bytes.now c.args.span.now c.requires.header c.requires.span).2

pub returns : goal.returns
returns c = c.walk_to.ensures ∙ ap (λ (v : Walk). find (λ (d : Item). d.at == c.args.offset) (items v)) c.inside-walk.ensures ∙ inside c.args.unit.now c.args.abbrevs.now c.args.bytes.now c.args.span.now c.requires.header c.requires.span c.args.offset c.if-offset-span.false c.if-offset-span-2.false

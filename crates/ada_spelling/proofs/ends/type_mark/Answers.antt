use Rattle.std.proofs.Common.{sym, ◌∙◌, arith}
use Rattle.std.proofs.lemmas.List.{take_rest}
use Rattle.ada_spelling.proofs.EndLaws.{place_here, place_more}
use Rattle.ada_spelling.proofs.ends.type_mark.Goals as goal

pub returns-then-starts_with-clause-value : goal.returns-then-starts_with-clause-value
returns-then-starts_with-clause-value c =
    let begins = rw (take_rest c.args.name.now c.loop-at.at) at (sym c.starts_with.ensures.value ∙ c.if-starts_with.true) in
    sym (c.loop-at.invariant ∙ place_here _ c.args.name.now c.loop-at.at (omega arith) begins)

pub loop-at-preserved : goal.loop-at-preserved
loop-at-preserved c =
    let begins = rw (take_rest c.args.name.now c.loop-at.at) at (sym c.starts_with.ensures.value ∙ c.if-starts_with.false) in
    c.loop-at.invariant ∙ place_more _ c.args.name.now c.loop-at.at (omega arith) begins

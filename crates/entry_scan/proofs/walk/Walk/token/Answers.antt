use Rattle.std.proofs.Common.{Option, sym, ◌∙◌, ap, refl}
use Rattle.ix_base.specs.declared.fault.Fault.{Fault}
use Rattle.index_model.specs.Walk.{token_or_fault}
use Rattle.entry_scan.specs.Tokens.{levels_seen, joint, token_seen}
use Rattle.entry_scan.specs.Ahead.{ahead, unless_stopped, place_behind}
use Rattle.entry_scan.proofs.LeftLaws.{left_over, tail_by_fault}
use Rattle.entry_scan.proofs.OrderAhead.{still_behind}
use Rattle.entry_scan.proofs.walk.Walk.token.Goals as goal

pub returns-in-Some-tail_fault-clause-value : goal.returns-in-Some-tail_fault-clause-value
returns-in-Some-tail_fault-clause-value c =
    let tree = c.self.inside.tree in
    let here = joint tree.frame.unit.start tree.cursor in
    let tail = left_over (token_or_fault tree.frame.unit tree.frame.abbrevs.now) (levels_seen tree.levels) here (sym c.is_over.ensures ∙ c.if-is_over.true) in
    (sym c.self.view_is ∙ ap (λ (f : Option Fault). unless_stopped f (ahead tree)) c.in_default.is ∙ tail ∙ tail_by_fault here _ c.in-Some-tail_fault.ensures, refl)

pub returns-then-is_over-clause-value : goal.returns-then-is_over-clause-value
returns-then-is_over-clause-value c =
    let tree = c.self.inside.tree in
    let here = joint tree.frame.unit.start tree.cursor in
    let tail = left_over (token_or_fault tree.frame.unit tree.frame.abbrevs.now) (levels_seen tree.levels) here (sym c.is_over.ensures ∙ c.if-is_over.true) in
    (sym c.self.view_is ∙ ap (λ (f : Option Fault). unless_stopped f (ahead tree)) c.in_default.is ∙ tail ∙ tail_by_fault here _ c.in_default-tail_fault.ensures, refl)

pub returns-in-Ok-clause-order : goal.returns-in-Ok-clause-order
returns-in-Ok-clause-order c = still_behind c.self.inside.fault (ahead c.step.new.self) (place_behind (token_seen c.in-Ok.token)) c.in-Ok.ensures.order

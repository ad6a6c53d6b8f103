use Rattle.std.proofs.Common.{Option, Some, Ok, subst}
use Rattle.entry_scan.specs.declared.token.Token.{Token}
use Rattle.entry_scan.specs.Ahead.{FollowsToken}
use Rattle.entry_scan.proofs.walk.Walk.next.Goals as goal

pub returns-in-Ok-Some-Entry-clause-order : goal.returns-in-Ok-Some-Entry-clause-order
returns-in-Ok-Some-Entry-clause-order c =
    let e = c.in-Ok-Some-Entry in
    let given = subst (λ (o : Option Token). FollowsToken c.token.new.self (Ok o)) e.field-0-is e.ensures.order in
    subst (λ (t : Token). FollowsToken c.token.new.self (Ok (Some t))) e.field-0-0-is given

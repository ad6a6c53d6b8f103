use Rattle.std.proofs.Common.{ap, sym, ◌∙◌, length, rules}
use Rattle.entry_scan.proofs.ValueLaws.{rest_read, value_next, no_fault, none_left}
use Rattle.entry_scan.proofs.attributes.AttributesIterator.next.Goals as goal

pub returns-in_err-spec-clause-steps : goal.returns-in_err-spec-clause-steps
returns-in_err-spec-clause-steps c =
    let none = sym c.self.view_is ∙ none_left c.self.inside.format c.self.inside.specs.now c.self.inside.cursor c.in_err-spec.ensures.cases in
    rw c.from_residual.ensures (none, none)

pub invariant_of-self : goal.invariant_of-self
invariant_of-self c =
    let here = rw c.in_ok-spec.ensures.cases.0 at c.self.invariant in
    absurd (no_fault c.self.inside.format c.in_ok-spec.spec.now c.in_ok-spec.others.now c.self.inside.cursor _ c.in-Err.ensures.value here)

pub returns-in-Err-clause-steps : goal.returns-in-Err-clause-steps
returns-in-Err-clause-steps c =
    let here = rw c.in_ok-spec.ensures.cases.0 at c.self.invariant in
    absurd (no_fault c.self.inside.format c.in_ok-spec.spec.now c.in_ok-spec.others.now c.self.inside.cursor _ c.in-Err.ensures.value here)

pub invariant_of-self-in-Ok : goal.invariant_of-self-in-Ok
invariant_of-self-in-Ok c =
    let here = rw c.in_ok-spec.ensures.cases.0 at c.self.invariant in
    rest_read c.self.inside.format c.in_ok-spec.spec.now c.in_ok-spec.others.now c.self.inside.cursor _ c.read.new.cursor c.in-Ok.ensures.value here

pub returns-in-Ok-clause-steps : goal.returns-in-Ok-clause-steps
returns-in-Ok-clause-steps c =
    let first = c.in_ok-spec.ensures.cases.0 in
    let here = rw first at c.self.invariant in
    let rest = rest_read c.self.inside.format c.in_ok-spec.spec.now c.in_ok-spec.others.now c.self.inside.cursor _ c.read.new.cursor c.in-Ok.ensures.value here in
    rw (← c.self.view_is) (rw first (value_next c.self.inside.format c.in_ok-spec.spec.now c.in_ok-spec.others.now c.self.inside.cursor _ c.read.new.cursor c.in-Ok.ensures.value rest))

pub returns-in-Ok-clause-goes : goal.returns-in-Ok-clause-goes
returns-in-Ok-clause-goes c =
    let shorter = ap length (returns-in-Ok-clause-steps c) in search rules

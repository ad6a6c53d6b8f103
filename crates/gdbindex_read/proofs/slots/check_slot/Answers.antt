use Rattle.std.proofs.Common.{ℕ, Some, ap, sym, ◌∙◌}
use Rattle.ix_base.specs.declared.fault.Fault.{Fault}
use Rattle.gdbindex_read.specs.Areas.{area_seen, areas_seen}
use Rattle.gdbindex_read.specs.Pool.{are_of_units, vector_in}
use Rattle.gdbindex_read.proofs.SlotsRead.{empty_slot, bad_name, bad_vector, good}
use Rattle.string_ends.proofs.TextLaws.{begins_behind, begins_inside, some_text_here}
use Rattle.gdbindex_read.proofs.slots.check_slot.Goals as goal

pub returns-in_default-clause-value : goal.returns-in_default-clause-value
returns-in_default-clause-value c = sym (empty_slot (areas_seen c.args.areas.now) (area_seen c.args.slot) c.in_default.ensures)

pub returns-then-found-limits-clause-value : goal.returns-then-found-limits-clause-value
returns-then-found-limits-clause-value c =
    let a = areas_seen c.args.areas.now in
    let none = begins_behind a.pool.rest c.args.limits.end c.in-Some.found.name c.requires.limits.end c.if-found-limits.true in
    ap (λ (f : Fault). Some f) c.fault.ensures ∙ sym (bad_name a (area_seen c.args.slot) c.in-Some.found c.in-Some.ensures none)

pub returns-then-not-has-clause-value : goal.returns-then-not-has-clause-value
returns-then-not-has-clause-value c =
    let a = areas_seen c.args.areas.now in
    let found = c.in-Some.found in
    let t = some_text_here _ (begins_inside a.pool.rest c.args.limits.end found.name c.requires.limits.end c.if-found-limits.false) in
    let wrong = ap (λ (n : ℕ). are_of_units n (vector_in a.pool.rest found.vector)) (sym c.requires.limits.units) ∙ sym c.has.ensures.value ∙ c.if-not-has.true in
    ap (λ (f : Fault). Some f) c.fault-then-not-has.ensures ∙ sym (bad_vector a (area_seen c.args.slot) found c.in-Some.ensures t.0 t.1 wrong)

pub returns-clause-value : goal.returns-clause-value
returns-clause-value c =
    let a = areas_seen c.args.areas.now in
    let found = c.in-Some.found in
    let t = some_text_here _ (begins_inside a.pool.rest c.args.limits.end found.name c.requires.limits.end c.if-found-limits.false) in
    let right = ap (λ (n : ℕ). are_of_units n (vector_in a.pool.rest found.vector)) (sym c.requires.limits.units) ∙ sym c.has.ensures.value ∙ c.if-not-has.false in
    sym (good a (area_seen c.args.slot) found c.in-Some.ensures t.0 t.1 right)

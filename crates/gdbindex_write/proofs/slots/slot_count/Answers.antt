use Rattle.std.proofs.Common.{sym, ap, ◌∙◌, arith}
use Rattle.index_model.specs.GdbSlots.{slot_count}
use Rattle.gdbindex_write.proofs.SlotLaws.{count_of, no_slots}
use Rattle.gdbindex_write.proofs.slots.slot_count.Goals as goal

pub returns-then-names-eq0-clause-exact : goal.returns-then-names-eq0-clause-exact
returns-then-names-eq0-clause-exact c = sym (ap slot_count c.if-names-eq0.true ∙ no_slots)

pub returns-then-names-slots-clause-exact : goal.returns-then-names-slots-clause-exact
returns-then-names-slots-clause-exact c =
    let inv = c.loop-doubled.invariant in
    count_of c.args.names c.loop-doubled.doubled c.loop-doubled.slots (omega arith) c.loop-doubled-test.true inv.power inv.few c.if-names-slots.true

use Rattle.std.proofs.Common.{◌*◌, ◌+◌, ap, sym, ◌∙◌, arith}
use Rattle.gdbindex_read.specs.Header.{header_length}
use Rattle.gdbindex_read.proofs.Offsets.{cut_header, header_is, offset_fault, offset_next, offset_wrong, offset_none, refused, accepted}
use Rattle.index_model.specs.declared.index_code.TheConstants.{GDB_OFFSETS}
use Rattle.index_model.specs.Meaning.{fault}
use Rattle.gdbindex_read.proofs.header.check_offsets.Goals as goal

pub returns-then-section-least-clause-value : goal.returns-then-section-least-clause-value
returns-then-section-least-clause-value c = rw c.fault.ensures (cut_header c.args.section.now c.args.version (omega (arith, c.header_length-least.ensures)))

pub offset_at-offset-requires-clause-inside : goal.offset_at-offset-requires-clause-inside
offset_at-offset-requires-clause-inside c = omega (arith, header_is c.args.version, c.header_length-least.ensures, c.offset_count-count.ensures)

pub returns-then-offset-least-clause-value : goal.returns-then-offset-least-clause-value
returns-then-offset-least-clause-value c =
    let section = c.args.section.now in
    let number = c.loop-number.number in
    rw (c.fault-then-offset-least.ensures, c.place_of.ensures) (refused section c.args.version (fault GDB_OFFSETS (4 * number + 4)) (omega (arith, c.header_length-least.ensures)) (ap (offset_fault c.args.section.now (header_length c.args.version) 0) (sym c.offset_count-count.ensures) ∙ sym c.loop-number.invariant ∙ offset_wrong section c.loop-number.least number c.offset_count-count.result c.offset_at-offset.result (omega arith) c.offset_at-offset.ensures.value c.then-offset-least.either))

pub loop-number-preserved : goal.loop-number-preserved
loop-number-preserved c = sym (offset_next c.args.section.now c.loop-number.least c.loop-number.number c.offset_count-count.result c.offset_at-offset.result (omega arith) c.offset_at-offset.ensures.value c.if-offset-least.false c.if-offset-section.false) ∙ c.loop-number.invariant

pub returns-clause-value : goal.returns-clause-value
returns-clause-value c = (accepted c.args.section.now c.args.version (omega (arith, c.header_length-least.ensures)) (ap (offset_fault c.args.section.now (header_length c.args.version) 0) (sym c.offset_count-count.ensures) ∙ sym c.loop-number.invariant ∙ offset_none c.args.section.now c.loop-number.least c.loop-number.number c.offset_count-count.result (omega arith))).value

pub returns-clause-order : goal.returns-clause-order
returns-clause-order c = (accepted c.args.section.now c.args.version (omega (arith, c.header_length-least.ensures)) (ap (offset_fault c.args.section.now (header_length c.args.version) 0) (sym c.offset_count-count.ensures) ∙ sym c.loop-number.invariant ∙ offset_none c.args.section.now c.loop-number.least c.loop-number.number c.offset_count-count.result (omega arith))).order

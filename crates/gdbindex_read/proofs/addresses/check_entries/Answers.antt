use Rattle.std.proofs.Common.{◌≡◌, Some, None, ap, sym, ◌∙◌, arith}
use Rattle.ix_base.specs.Reading.{Input}
use Rattle.ix_base.specs.declared.fault.Fault.{Fault}
use Rattle.index_model.specs.declared.index_code.TheConstants.{GDB_ADDRESS_AREA}
use Rattle.index_model.specs.Meaning.{fault, wrong_in}
use Rattle.index_model.specs.Layout.{field}
use Rattle.index_model.specs.GdbIndexRead.{Address, address}
use Rattle.gdbindex_read.specs.Areas.{area_seen, areas_seen, item}
use Rattle.gdbindex_read.proofs.Loops.{all_items, fault_from_more, fault_from_here, fault_from_none}
use Rattle.gdbindex_read.proofs.Entries.{past_units, of_a_unit}
use Rattle.gdbindex_read.proofs.addresses.check_entries.Goals as goal

pub returns-then-read-units : goal.returns-then-read-units
returns-then-read-units c =
    let a = areas_seen c.args.areas.now in
    let k = c.loop-number.number in
    let entry = area_seen c.item-entry.result in
    let unit : c.read.result.unit ≡ field 4 16 entry.rest = ap (λ (e : Address). e.number) c.read.ensures in
    let wrong : wrong_in (address a entry) ≡ Some (fault GDB_ADDRESS_AREA entry.at) = past_units a entry (omega (arith, unit)) in
    let at_item : wrong_in (address a (item 20 a.addresses k)) ≡ Some (fault GDB_ADDRESS_AREA entry.at) = ap (λ (i : Input). wrong_in (address a i)) (sym c.item-entry.ensures.value) ∙ wrong in
    let all = all_items (address a) 20 a.addresses c.count-count.result c.count-count.ensures in
    ap (λ (f : Fault). Some f) c.fault.ensures ∙ sym (sym all ∙ sym c.loop-number.invariant ∙ fault_from_here (address a) (item 20 a.addresses) k c.count-count.result (fault GDB_ADDRESS_AREA entry.at) (omega arith) at_item)

pub loop-number-preserved : goal.loop-number-preserved
loop-number-preserved c =
    let a = areas_seen c.args.areas.now in
    let k = c.loop-number.number in
    let entry = area_seen c.item-entry.result in
    let unit : c.read.result.unit ≡ field 4 16 entry.rest = ap (λ (e : Address). e.number) c.read.ensures in
    let right : wrong_in (address a entry) ≡ None = of_a_unit a entry (omega (arith, unit)) in
    let at_item : wrong_in (address a (item 20 a.addresses k)) ≡ None = ap (λ (i : Input). wrong_in (address a i)) (sym c.item-entry.ensures.value) ∙ right in
    sym (fault_from_more (address a) (item 20 a.addresses) k c.count-count.result (omega arith) at_item) ∙ c.loop-number.invariant

pub returns : goal.returns
returns c =
    let a = areas_seen c.args.areas.now in
    let all = all_items (address a) 20 a.addresses c.count-count.result c.count-count.ensures in
    sym (sym all ∙ sym c.loop-number.invariant ∙ fault_from_none (address a) (item 20 a.addresses) c.loop-number.number c.count-count.result (omega arith))

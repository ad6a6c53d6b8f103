use Rattle.std.proofs.Common.{◌≡◌, true, Some, None, ap, sym, ◌∙◌, arith}
use Rattle.ix_base.specs.Reading.{Input}
use Rattle.index_model.specs.GdbIndexRead.{Address}
use Rattle.gdbindex_read.specs.Addresses.{address_in, address_of, contains_of, entry_seen}
use Rattle.gdbindex_read.proofs.Loops.{found_from_more, found_from_here, found_from_none}
use Rattle.gdbindex_read.proofs.Entries.{unit_of}
use Rattle.gdbindex_read.proofs.addresses.AddressArea.unit_at.Goals as goal

pub returns-then-contains : goal.returns-then-contains
returns-then-contains c =
    let a = c.args.self.now in
    let k = c.loop-number.number in
    let is : entry_seen c.read-entry.result ≡ address_of a k = c.read-entry.ensures ∙ ap (λ (i : Input). address_in i.rest) c.item.ensures.value in
    let here : contains_of c.args.address (address_of a k) ≡ true = ap (contains_of c.args.address) (sym is) ∙ sym c.contains.ensures ∙ c.if-contains.true in
    let found = found_from_here (contains_of c.args.address) (address_of a) k c.count-count.result (omega arith) here in
    ap (λ (e : Address). Some e.number) is ∙ sym (unit_of a c.args.address c.count-count.result c.count-count.ensures (Some (address_of a k)) (sym c.loop-number.invariant ∙ found))

pub loop-number-preserved : goal.loop-number-preserved
loop-number-preserved c =
    let a = c.args.self.now in
    let k = c.loop-number.number in
    let is : entry_seen c.read-entry.result ≡ address_of a k = c.read-entry.ensures ∙ ap (λ (i : Input). address_in i.rest) c.item.ensures.value in
    sym (found_from_more (contains_of c.args.address) (address_of a) k c.count-count.result (omega arith) (ap (contains_of c.args.address) (sym is) ∙ sym c.contains.ensures ∙ c.if-contains.false)) ∙ c.loop-number.invariant

pub returns : goal.returns
returns c =
    let a = c.args.self.now in
    sym (unit_of a c.args.address c.count-count.result c.count-count.ensures None (sym c.loop-number.invariant ∙ found_from_none (contains_of c.args.address) (address_of a) c.loop-number.number c.count-count.result (omega arith)))

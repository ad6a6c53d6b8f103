use Rattle.std.proofs.Common.{length, ◌/◌, sym, ◌∙◌}
use Rattle.std.proofs.lemmas.Result.{err_from_is_err_and}
use Rattle.std.specs.List.{range_with_len}
use Rattle.ix_base.specs.Reading.{Input}
use Rattle.index_model.specs.Meaning.{each}
use Rattle.index_model.specs.GdbAreas.{items}
use Rattle.index_model.specs.GdbIndexRead.{address}
use Rattle.gdbindex_read.specs.Areas.{areas_seen, item}
use Rattle.gdbindex_read.specs.Addresses.{address_in}
use Rattle.gdbindex_read.proofs.Loops.{each_is, err_of}
use Rattle.gdbindex_read.proofs.Entries.{address_is}
use Rattle.gdbindex_read.proofs.Opened.{cut_addresses, addresses_whole}
use Rattle.gdbindex_read.proofs.addresses.AddressArea.open.Goals as goal

pub returns-then-area-ne0 : goal.returns-then-area-ne0
returns-then-area-ne0 c = rw c.fault.ensures (cut_addresses (areas_seen c.args.areas.now) c.if-area-ne0.true)

pub returns-in_err-check_entries : goal.returns-in_err-check_entries
returns-in_err-check_entries c =
    let a = areas_seen c.args.areas.now in
    let p = err_from_is_err_and c.from_residual.result c.from_residual.ensures.1 in
    rw (p.1, p.2) (addresses_whole a c.if-area-ne0.false ∙ err_of (each (address a) (items 20 a.addresses)) c.in_err-check_entries.field-0.0 c.in_err-check_entries.ensures)

pub returns : goal.returns
returns c =
    let a = areas_seen c.args.areas.now in
    addresses_whole a c.if-area-ne0.false ∙ each_is (address a) (item 20 a.addresses) (λ (i : Input). address_in i.rest) (address_is a) (range_with_len 0 (length a.addresses.rest / 20)) (sym c.in_ok-check_entries.ensures)

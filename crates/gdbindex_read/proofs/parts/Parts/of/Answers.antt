use Rattle.std.specs.Prelude.{option_map}
use Rattle.std.proofs.lemmas.Result.{err_from_is_err_and}
use Rattle.gdbindex_read.specs.Addresses.{addresses_seen}
use Rattle.gdbindex_read.specs.Areas.{areas_seen}
use Rattle.gdbindex_read.specs.Shortcut.{shortcut_seen}
use Rattle.gdbindex_read.specs.Slots.{slots_seen}
use Rattle.gdbindex_read.proofs.Opened.{at_addresses, at_slots, at_shortcut, at_paths, opened}
use Rattle.gdbindex_read.proofs.parts.Parts.of.Goals as goal

pub returns-in_err-addresses-clause-fault : goal.returns-in_err-addresses-clause-fault
returns-in_err-addresses-clause-fault c = λ section those.
    let p = err_from_is_err_and c.from_residual.result c.from_residual.ensures.1 in
    rw (p.1, p.2) (at_addresses section (areas_seen c.args.areas.now) those.are those.whole c.in_err-addresses.field-0.0 c.in_err-addresses.ensures)

pub returns-in_err-symbols-clause-fault : goal.returns-in_err-symbols-clause-fault
returns-in_err-symbols-clause-fault c = λ section those.
    let p = err_from_is_err_and c.from_residual-in_err-symbols.result c.from_residual-in_err-symbols.ensures.1 in
    rw (p.1, p.2) (at_slots section (areas_seen c.args.areas.now) those.are those.whole (addresses_seen c.in_ok-addresses.addresses) c.in_ok-addresses.ensures c.in_err-symbols.field-0.0 c.in_err-symbols.ensures.value)

pub returns-in_err-main-clause-fault : goal.returns-in_err-main-clause-fault
returns-in_err-main-clause-fault c = λ section those.
    let p = err_from_is_err_and c.from_residual-in_err-main.result c.from_residual-in_err-main.ensures.1 in
    rw (p.1, p.2) (at_shortcut section (areas_seen c.args.areas.now) those.are those.whole (addresses_seen c.in_ok-addresses.addresses) c.in_ok-addresses.ensures (slots_seen c.in_ok-symbols.symbols) c.in_ok-symbols.ensures.value c.in_err-main.field-0.0 c.in_err-main.ensures)

pub returns-clause-parts : goal.returns-clause-parts
returns-clause-parts c = λ section those. record {
  size = c.in_ok-symbols.ensures.size;
  few = c.in_ok-symbols.ensures.few;
  lost = at_paths section (areas_seen c.args.areas.now) those.are those.whole (addresses_seen c.in_ok-addresses.addresses) c.in_ok-addresses.ensures (slots_seen c.in_ok-symbols.symbols) c.in_ok-symbols.ensures.value (option_map shortcut_seen c.in_ok-main.main) c.in_ok-main.ensures;
  opened = opened section (areas_seen c.args.areas.now) those.are those.whole (addresses_seen c.in_ok-addresses.addresses) c.in_ok-addresses.ensures (slots_seen c.in_ok-symbols.symbols) c.in_ok-symbols.ensures.value (option_map shortcut_seen c.in_ok-main.main) c.in_ok-main.ensures;
}

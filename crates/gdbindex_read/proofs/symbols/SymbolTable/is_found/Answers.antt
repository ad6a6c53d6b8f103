use Rattle.std.proofs.Common.{◌<◌, length, ap, sym, ◌∙◌, arith}
use Rattle.gdbindex_read.specs.Slots.{slots_seen, is_found_from}
use Rattle.gdbindex_read.proofs.SlotsRead.{here_full, here_empty, length-slots}
use Rattle.index_model.specs.GdbIndexRead.{is_table_size}
use Rattle.index_model.specs.GdbPath.{path_end}
use Rattle.gdbindex_read.proofs.Paths.{found_is}
use Rattle.gdbindex_read.proofs.WalkLaws.{own_print}
use Rattle.gdbindex_read.proofs.symbols.SymbolTable.is_found.Goals as goal

pub returns-in_default : goal.returns-in_default
returns-in_default c = sym (ap (is_found_from (slots_seen c.args.self.now) c.args.place) (here_empty c.args.self.now c.args.place c.requires.place c.in_default.ensures))

pub short_path_end-requires-clause-print : goal.short_path_end-requires-clause-print
short_path_end-requires-clause-print c =
    let t = c.args.self.now in
    own_print (slots_seen t) c.args.place c.print.result (c.print.ensures (slots_seen t) c.requires.homes) _ c.name.result.now (here_full t c.args.place c.requires.place c.in-Some.slot c.in-Some.ensures) c.name.ensures

pub returns : goal.returns
returns c =
    let t = c.args.self.now in
    let k = c.args.place in
    let here = here_full t k c.requires.place c.in-Some.slot c.in-Some.ensures in
    let within : k < length (slots_seen t) = omega (arith, length-slots t, c.requires.place) in
    c.eq.ensures
    ∙ found_is (slots_seen t) k _ (ap is_table_size (length-slots t) ∙ c.requires.size) within here c.in_ok-end.end (c.in_ok-end.ensures ∙ ap (path_end (slots_seen t)) c.name.ensures)
    ∙ sym (ap (is_found_from (slots_seen t) k) here)

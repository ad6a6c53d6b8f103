use Rattle.std.proofs.Common.{◌<◌, length, ap, sym, ◌∙◌, arith}
use Rattle.gdbindex_read.specs.Slots.{slots_seen, is_found_from}
use Rattle.gdbindex_read.proofs.SlotsRead.{here_full, here_empty, length-slots}
use Rattle.index_model.specs.GdbIndexRead.{is_table_size}
use Rattle.index_model.specs.GdbPath.{path_end}
use Rattle.gdbindex_read.proofs.Paths.{found_is}
use Rattle.gdbindex_read.proofs.symbols.SymbolTable.is_reached.Goals as goal

pub returns-in-Some : goal.returns-in-Some
returns-in-Some c =
    let t = c.args.self.now in
    let k = c.args.place in
    let here = here_full t k c.requires.place c.in-Some.slot c.in-Some.ensures in
    let within : k < length (slots_seen t) = omega (arith, length-slots t, c.requires.place) in
    c.eq.ensures
    ∙ found_is (slots_seen t) k _ (ap is_table_size (length-slots t) ∙ c.requires.size) within here c.path_end.result (c.path_end.ensures.value ∙ ap (path_end (slots_seen t)) c.name.ensures)
    ∙ sym (ap (is_found_from (slots_seen t) k) here)

pub returns-in-None : goal.returns-in-None
returns-in-None c = sym (ap (is_found_from (slots_seen c.args.self.now) c.args.place) (here_empty c.args.self.now c.args.place c.requires.place c.in-None.ensures))

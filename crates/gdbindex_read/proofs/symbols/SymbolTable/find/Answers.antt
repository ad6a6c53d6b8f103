use Rattle.std.proofs.Common.{ap, sym, ◌∙◌}
use Rattle.index_model.specs.GdbPath.{elements_at}
use Rattle.gdbindex_read.specs.Slots.{slots_seen}
use Rattle.gdbindex_read.proofs.Paths.{found_elements, found_nothing}
use Rattle.gdbindex_read.proofs.SlotsRead.{here_full, here_empty}
use Rattle.gdbindex_read.proofs.symbols.SymbolTable.find.Goals as goal

pub returns-in_default : goal.returns-in_default
returns-in_default c = c.none.ensures ∙ ap (elements_at (slots_seen c.args.self.now) c.args.name.now) c.in_default.ensures.value

pub returns-in-Some-slot : goal.returns-in-Some-slot
returns-in-Some-slot c = c.elements.ensures ∙ sym (found_elements (slots_seen c.args.self.now) c.args.name.now c.in-Some.place (sym c.in-Some.ensures.value) _ (here_full c.args.self.now c.in-Some.place c.in-Some.ensures.within c.in-Some-slot.slot c.in-Some-slot.ensures))

pub returns-in-None : goal.returns-in-None
returns-in-None c = c.none-in-None.ensures ∙ sym (found_nothing (slots_seen c.args.self.now) c.args.name.now c.in-Some.place (sym c.in-Some.ensures.value) (here_empty c.args.self.now c.in-Some.place c.in-Some.ensures.within c.in-None.ensures))

use Rattle.std.proofs.Common.{Bool, not, ap, sym, ◌∙◌}
use Rattle.index_model.specs.GdbIndexRead.{is_other}
use Rattle.gdbindex_read.proofs.SlotsRead.{here_full, here_empty}
use Rattle.gdbindex_read.proofs.symbols.SymbolTable.is_other.Goals as goal

pub returns-in-Some : goal.returns-in-Some
returns-in-Some c =
    let named = here_full c.args.self.now c.args.place c.requires c.in-Some.slot c.in-Some.ensures in
    ap (λ (b : Bool). not b) c.has_name.ensures ∙ sym (ap (is_other c.args.name.now) named)

pub returns-in-None : goal.returns-in-None
returns-in-None c = sym (ap (is_other c.args.name.now) (here_empty c.args.self.now c.args.place c.requires c.in-None.ensures))

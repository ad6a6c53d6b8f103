use Rattle.std.proofs.Common.{◌∙◌, ℕ, List, reverse, sym, ap}
use Rattle.gdb_index.proofs.NameLaws.{none_differ}
use Rattle.gdb_index.proofs.turned.turned_newer.Goals as goal

pub returns-else-differ : goal.returns-else-differ
returns-else-differ c = ap (λ (ts : List (List ℕ)). reverse ts) (none_differ c.args.texts.now (sym c.differ.ensures ∙ c.if-differ.false))

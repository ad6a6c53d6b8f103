use Rattle.std.proofs.Common.{◌++◌, List, append-nil, sym, ap, ◌∙◌}
use Rattle.index_model.specs.declared.entry.Entry.{Entry}
use Rattle.gdb_index.proofs.UnitLaws.{unread_lists_none}
use Rattle.gdb_index.proofs.unit.list_unit.Goals as goal

pub list_read-requires-clause-reading : goal.list_read-requires-clause-reading
list_read-requires-clause-reading c p is w wc number = sym (c.requires.reading p is w wc number) ∙ c.in-Some.is

pub returns-in-None-clause-value : goal.returns-in-None-clause-value
returns-in-None-clause-value c p is w wc number =
    let old = c.args.entries.now.items in
    let none = unread_lists_none p w (sym (c.requires.reading p is w wc number) ∙ c.in-None.is) in
    sym (append-nil old) ∙ ap (λ (es : List Entry). old ++ es) (sym none)

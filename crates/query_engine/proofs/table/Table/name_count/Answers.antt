use Rattle.std.proofs.Common.{length, ap, ◌∙◌}
use Rattle.query_engine.specs.Texts.{table_names}
use Rattle.query_engine.proofs.TextLists.{name_count_is}
use Rattle.query_engine.proofs.table.Table.name_count.Goals as goal

pub returns : goal.returns
returns c = c.len.ensures ∙ name_count_is c.self.inside.entries.items c.self.inside.by_name c.self.invariant.own c.self.invariant.by_name ∙ ap (λ es. length (table_names es)) c.self.view_is

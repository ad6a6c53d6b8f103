use Rattle.std.proofs.Common.{sym, ◌∙◌}
use Rattle.gdb_items.proofs.NamingLaws.{named_by}
use Rattle.gdb_items.proofs.facts.is_named.Goals as goal

pub returns : goal.returns
returns c = c.has_naming.ensures ∙ sym (named_by c.args.entry.now)

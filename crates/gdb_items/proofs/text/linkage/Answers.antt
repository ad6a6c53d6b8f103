use Rattle.gdb_items.proofs.TextLaws.{placed_linkage}
use Rattle.gdb_items.proofs.text.linkage.Goals as goal

pub returns-in-Some : goal.returns-in-Some
returns-in-Some c ss base wide = placed_linkage ss base wide c.args.entry.now c.in-Some.at c.in-Some.ensures

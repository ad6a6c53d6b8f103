use Rattle.gdb_items.proofs.TextLaws.{placed_name}
use Rattle.gdb_items.proofs.text.name.Goals as goal

pub returns-in-Some : goal.returns-in-Some
returns-in-Some c ss base wide = placed_name ss base wide c.args.entry.now c.in-Some.at (let is = c.in-Some.ensures in is)

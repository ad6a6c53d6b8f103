use Rattle.gdb_items.proofs.TextLaws.{both_told}
use Rattle.gdb_items.proofs.text.UnreadTexts.of.Goals as goal

pub returns-in-Some-Some : goal.returns-in-Some-Some
returns-in-Some-Some c t is =
    let home = c.args.home.now in
    both_told home.sections.now c.args.base home.unit.wide c.args.entry.now t is c.in-Some-Some.name c.in-Some-Some.linkage
    (c.in-Some-Some.ensures home.sections.now c.args.base home.unit.wide) (c.in-Some-Some.ensures' home.sections.now c.args.base home.unit.wide)

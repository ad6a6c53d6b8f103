use Rattle.std.proofs.Common.{rules, arith}
use Rattle.std.proofs.lemmas.Grind.{common_steps}
use Rattle.range_lists.proofs.Roots.{indexed_at}
use Rattle.range_lists.proofs.home.RangeUnit.indexed.Goals as goal

pub returns-in_err-base : goal.returns-in_err-base
returns-in_err-base c = rw (indexed_at c.args.self.now c.args.self.now.sections.now c.args.index) (search rules)

pub returns-in_err-ok_or : goal.returns-in_err-ok_or
returns-in_err-ok_or c = rw (indexed_at c.args.self.now c.args.self.now.sections.now c.args.index) (grind (arith, common_steps))

pub returns : goal.returns
returns c = rw (indexed_at c.args.self.now c.args.self.now.sections.now c.args.index) (grind (arith, common_steps))

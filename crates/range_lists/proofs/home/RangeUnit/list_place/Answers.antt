use Rattle.std.proofs.Common.{rules, arith}
use Rattle.std.proofs.lemmas.Grind.{common_steps}
use Rattle.range_lists.proofs.Roots.{list_offset_at}
use Rattle.range_lists.proofs.home.RangeUnit.list_place.Goals as goal

pub returns-in_err-base-clause-place : goal.returns-in_err-base-clause-place
returns-in_err-base-clause-place c = rw (list_offset_at c.args.self.now c.args.self.now.sections.now c.args.index) (search rules)

pub returns-in_err-offset-clause-place : goal.returns-in_err-offset-clause-place
returns-in_err-offset-clause-place c = rw (list_offset_at c.args.self.now c.args.self.now.sections.now c.args.index) (grind (arith, common_steps))

pub returns-clause-place : goal.returns-clause-place
returns-clause-place c = rw (list_offset_at c.args.self.now c.args.self.now.sections.now c.args.index) (grind (arith, common_steps))

use Rattle.range_lists.specs.Homes.{unit_with}
use Rattle.range_lists.proofs.Rests.{IsReading}
use Rattle.range_lists.proofs.home.RangeUnit.add_list_at.Given as goal

-- the ranges so far, and those that are still to come
abbrev pub invariant-entries : goal.invariant-entries
invariant-entries l = IsReading l.self.sections.now (unit_with l.self) l.self.number l.list l.fn.found l.found l.ends.items l.number l.base l.cursor

use Rattle.std.proofs.Common.{Some, None, refl}
use Rattle.index_model.specs.Ranges.{ranges_by}
use Rattle.range_lists.specs.Homes.{as_high, as_value, unit_with}
use Rattle.range_lists.specs.Lists.{kept}
use Rattle.range_lists.proofs.Once.{bounds_added}
use Rattle.range_lists.proofs.home.RangeUnit.add_ranges.Goals as goal

pub returns-in-None-Some-Some : goal.returns-in-None-Some-Some
returns-in-None-Some-Some c read =
    let own = c.in-None-Some-Some in
    rw (own.is-0, own.is-1, own.is-2) (bounds_added c.args.self.now.sections.now c.args.self.now.number c.args.found.now (record { ranges = c.add_bounds.new.ranges; lists = c.args.found.now.lists; from_lists = c.args.found.now.from_lists }) read refl c.add_bounds.result
    (kept (ranges_by c.args.self.now.sections.now (unit_with c.args.self.now) None (Some (as_value own.low)) (Some (as_high own.high)))) c.add_bounds.ensures)

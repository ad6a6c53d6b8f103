use Rattle.std.proofs.Common.{List, subst}
use Rattle.index_model.specs.declared.range.UnitRange.{UnitRange}
use Rattle.index_model.specs.Faults.{all_ranges}
use Rattle.index_model.specs.Pieces.{IsPieces}
use Rattle.range_lists.specs.Same.{HaveSameUnits}
use Rattle.index_pool.specs.Files.{IsSummaryOf}
use Rattle.stage_core.specs.Outputs.{summary_seen}
use Rattle.index_pool.proofs.Lists.{ok_and, and_ok}
use Rattle.index_pool.proofs.RangeLoop.{same_pieces}
use Rattle.index_pool.proofs.summary.summary.Goals as goal

pub returns : goal.returns
returns c p file ks links =
    let found = c.in_ok-found.found in
    let rs = ok_and (all_ranges p ks) (HaveSameUnits found.ranges.items) (c.in_ok-found.ensures p file ks links) in
    and_ok (all_ranges p ks) rs.0 (IsSummaryOf c.args.image.now (summary_seen (record { main = c.in_ok-main.main; map = c.in_ok-map.map }))) rs.1
    (λ q of ls own. (c.in_ok-main.ensures q of ls own, same_pieces found.ranges.items rs.0 c.in_ok-map.map rs.2 (subst (λ (us : List UnitRange). IsPieces us c.in_ok-map.map) c.ranges-2.ensures c.in_ok-map.ensures.pieces)))

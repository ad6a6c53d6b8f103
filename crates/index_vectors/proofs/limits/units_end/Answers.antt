use Rattle.std.proofs.Common.{refl}
use Rattle.index_vectors.specs.Limits.{one_unit, unknown_unit, three_units}
use Rattle.index_vectors.proofs.Opened.{all_defs}
use Rattle.index_vectors.proofs.limits.units_end.Goals as goal

pub returns : goal.returns
unfolding all_defs one_unit unknown_unit three_units
returns c = record { last = refl; beyond = refl; second = refl; third = refl; header_first = refl }

use Rattle.std.proofs.Common.{◌≡◌, ◌≤◌, true, false, length, take, map}
use Rattle.index_model.specs.Layout.{below}
use Rattle.index_model.specs.NameIndex.{units_of_sort}
use Rattle.debugnames_write.specs.Units.{place_at}
use Rattle.debugnames_write.proofs.units.UnitPlaces.of.Given as goal

abbrev pub invariant-loop-unit : goal.invariant-loop-unit
invariant-loop-unit l = record {
  places : l.places.items ≡ map (place_at l.units) (below l.unit-index);
  compile : l.compile_units ≡ length (units_of_sort false (take l.unit-index l.units));
  types : l.type_units ≡ length (units_of_sort true (take l.unit-index l.units));
  few_compile : l.compile_units ≤ l.unit-index;
  few_types : l.type_units ≤ l.unit-index;
}

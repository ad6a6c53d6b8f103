use Rattle.std.proofs.Common.{◌≡◌, ◌+◌, map, take}
use Rattle.std.specs.Prelude.{count_by}
use Rattle.index_model.specs.Layout.{below}
use Rattle.index_model.specs.GdbIndex.{index_number, is_type_unit}
use Rattle.gdbindex_write.proofs.NumberLaws.{is_plain}
use Rattle.gdbindex_write.proofs.numbers.index_numbers.Given as goal

abbrev pub invariant-loop-unit : goal.invariant-loop-unit
invariant-loop-unit l = record {
  made : l.numbers.items ≡ map (index_number l.units) (below l.unit-index);
  plain : l.next ≡ count_by is_plain (take l.unit-index l.units);
  types : l.next_type ≡ count_by is_plain l.units + count_by is_type_unit (take l.unit-index l.units);
}

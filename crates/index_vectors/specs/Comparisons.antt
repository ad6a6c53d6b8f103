-- What a comparison of an address table with the units' own ranges writes (DWARF 5, 6.1.2 and 2.17).
use Rattle.std.specs.Prelude.{ℕ, List, map, Option, Result, Ok, Err}
use Rattle.ix_base.specs.declared.fault.Fault.{Fault}
use Rattle.index_model.specs.Meaning.{◌>>=◌}
use Rattle.index_model.specs.Faults.{Built}
use Rattle.index_model.specs.Texts.{text_of_fault}
use Rattle.reach_model.specs.declared.difference.Difference.{Difference}
use Rattle.reach_model.specs.AddressSets.{address_sets}
use Rattle.reach_model.specs.Differences.{first_difference}
use Rattle.reach_model.specs.AddressTexts.{text_of_comparison, text_of_aranges_fault}

-- the first address at which the table has another unit than the units' own ranges, or the table's first fault
unfoldable pub comparison_of : Built → Result (Option Difference) Fault
comparison_of b = do
  sets ← address_sets b.program.sections (map (λ w. w.unit) b.program.walks)
  Ok (first_difference sets b.ranges)

-- the status of a comparison and what it writes
unfoldable pub comparison_written : Result (Option Difference) Fault → ℕ × List ℕ
comparison_written (Ok d) = (0, text_of_comparison d)
comparison_written (Err f) = (14, text_of_aranges_fault f)

-- the same, for a file that was built or refused
unfoldable pub written_of_built : Result Built Fault → ℕ × List ℕ
written_of_built (Ok b) = comparison_written (comparison_of b)
written_of_built (Err f) = (1, text_of_fault f)

-- Written by tools/gen_vectors.py; not to be changed by hand.
use Rattle.index_vectors.proofs.FilesOfUnitsHold.{files_in_three_units as files_in_three_units_holds, files_first_damaged_table_counts as files_first_damaged_table_counts_holds}
use Rattle.index_vectors.proofs.files_of_units.Goals as goal

pub returns : goal.returns
returns c = record {
  files_in_three_units = files_in_three_units_holds;
  files_first_damaged_table_counts = files_first_damaged_table_counts_holds;
}

-- Written by tools/gen_vectors.py; not to be changed by hand.
use Rattle.index_vectors.proofs.GdbIndexesHold.{gdb8_of_file_a as gdb8_of_file_a_holds, gdb8_of_file_e as gdb8_of_file_e_holds, gdb8_of_three_helpers as gdb8_of_three_helpers_holds, gdb9_of_file_a as gdb9_of_file_a_holds, gdb9_of_file_e as gdb9_of_file_e_holds}
use Rattle.index_vectors.proofs.gdb_indexes.Goals as goal

pub returns : goal.returns
returns c = record {
  gdb8_of_file_a = gdb8_of_file_a_holds;
  gdb8_of_file_e = gdb8_of_file_e_holds;
  gdb8_of_three_helpers = gdb8_of_three_helpers_holds;
  gdb9_of_file_a = gdb9_of_file_a_holds;
  gdb9_of_file_e = gdb9_of_file_e_holds;
}

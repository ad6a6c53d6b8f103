-- Written by tools/gen_vectors.py; not to be changed by hand.
use Rattle.index_vectors.proofs.AddedIndexesHold.{add_gdb8 as add_gdb8_holds, add_gdb9 as add_gdb9_holds, add_names as add_names_holds}
use Rattle.index_vectors.proofs.added_indexes.Goals as goal

pub returns : goal.returns
returns c = record {
  add_gdb8 = add_gdb8_holds;
  add_gdb9 = add_gdb9_holds;
  add_names = add_names_holds;
}

-- Written by tools/gen_vectors.py; not to be changed by hand.
use Rattle.index_vectors.proofs.NameIndexesHold.{names_of_file_a as names_of_file_a_holds, names_of_file_e as names_of_file_e_holds}
use Rattle.index_vectors.proofs.name_indexes.Goals as goal

pub returns : goal.returns
returns c = record {
  names_of_file_a = names_of_file_a_holds;
  names_of_file_e = names_of_file_e_holds;
}

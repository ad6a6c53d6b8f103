-- Written by tools/gen_vectors.py; not to be changed by hand.
use Rattle.index_vectors.proofs.ValueFaultsHold.{form_block1_past_the_unit as form_block1_past_the_unit_holds, form_block4_past_the_unit as form_block4_past_the_unit_holds, form_block_past_the_unit as form_block_past_the_unit_holds, form_exprloc_too_large as form_exprloc_too_large_holds, form_indirect_too_large as form_indirect_too_large_holds, form_sdata_too_large as form_sdata_too_large_holds, form_udata_too_large as form_udata_too_large_holds, form_string_without_an_end as form_string_without_an_end_holds, form_unknown_after_a_cut_one as form_unknown_after_a_cut_one_holds}
use Rattle.index_vectors.proofs.value_faults.Goals as goal

pub returns : goal.returns
returns c = record {
  form_block1_past_the_unit = form_block1_past_the_unit_holds;
  form_block4_past_the_unit = form_block4_past_the_unit_holds;
  form_block_past_the_unit = form_block_past_the_unit_holds;
  form_exprloc_too_large = form_exprloc_too_large_holds;
  form_indirect_too_large = form_indirect_too_large_holds;
  form_sdata_too_large = form_sdata_too_large_holds;
  form_udata_too_large = form_udata_too_large_holds;
  form_string_without_an_end = form_string_without_an_end_holds;
  form_unknown_after_a_cut_one = form_unknown_after_a_cut_one_holds;
}

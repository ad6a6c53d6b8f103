-- Written by tools/gen_vectors.py; not to be changed by hand.
use Rattle.index_vectors.proofs.ConstantAndFlagFormsHold.{form_data1 as form_data1_holds, form_data16 as form_data16_holds, form_data2 as form_data2_holds, form_data4 as form_data4_holds, form_data8 as form_data8_holds, form_exprloc as form_exprloc_holds, form_flag as form_flag_holds, form_flag_present as form_flag_present_holds, form_implicit_const as form_implicit_const_holds, form_indirect_data4 as form_indirect_data4_holds, form_indirect_flag_present as form_indirect_flag_present_holds, form_indirect_padded as form_indirect_padded_holds}
use Rattle.index_vectors.proofs.constant_and_flag_forms.Goals as goal

pub returns : goal.returns
returns c = record {
  form_data1 = form_data1_holds;
  form_data16 = form_data16_holds;
  form_data2 = form_data2_holds;
  form_data4 = form_data4_holds;
  form_data8 = form_data8_holds;
  form_exprloc = form_exprloc_holds;
  form_flag = form_flag_holds;
  form_flag_present = form_flag_present_holds;
  form_implicit_const = form_implicit_const_holds;
  form_indirect_data4 = form_indirect_data4_holds;
  form_indirect_flag_present = form_indirect_flag_present_holds;
  form_indirect_padded = form_indirect_padded_holds;
}

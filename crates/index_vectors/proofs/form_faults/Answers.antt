-- Written by tools/gen_vectors.py; not to be changed by hand.
use Rattle.index_vectors.proofs.FormFaultsHold.{debug_abbrev_byte_04_made_02 as debug_abbrev_byte_04_made_02_holds, debug_abbrev_byte_04_made_1c as debug_abbrev_byte_04_made_1c_holds, form_gnu_addr_index as form_gnu_addr_index_holds, form_gnu_ref_alt as form_gnu_ref_alt_holds, form_of_number_0 as form_of_number_0_holds, form_of_number_2 as form_of_number_2_holds, form_of_number_2d as form_of_number_2d_holds, form_indirect_unknown as form_indirect_unknown_holds, form_indirect_implicit_const as form_indirect_implicit_const_holds, indirect_of_indirect as indirect_of_indirect_holds, form_unknown_before_a_cut_one as form_unknown_before_a_cut_one_holds, form_strp_sup as form_strp_sup_holds, form_ref_sup4 as form_ref_sup4_holds, form_ref_sup8 as form_ref_sup8_holds, form_indirect_supplementary as form_indirect_supplementary_holds}
use Rattle.index_vectors.proofs.form_faults.Goals as goal

pub returns : goal.returns
returns c = record {
  debug_abbrev_byte_04_made_02 = debug_abbrev_byte_04_made_02_holds;
  debug_abbrev_byte_04_made_1c = debug_abbrev_byte_04_made_1c_holds;
  form_gnu_addr_index = form_gnu_addr_index_holds;
  form_gnu_ref_alt = form_gnu_ref_alt_holds;
  form_of_number_0 = form_of_number_0_holds;
  form_of_number_2 = form_of_number_2_holds;
  form_of_number_2d = form_of_number_2d_holds;
  form_indirect_unknown = form_indirect_unknown_holds;
  form_indirect_implicit_const = form_indirect_implicit_const_holds;
  indirect_of_indirect = indirect_of_indirect_holds;
  form_unknown_before_a_cut_one = form_unknown_before_a_cut_one_holds;
  form_strp_sup = form_strp_sup_holds;
  form_ref_sup4 = form_ref_sup4_holds;
  form_ref_sup8 = form_ref_sup8_holds;
  form_indirect_supplementary = form_indirect_supplementary_holds;
}

-- Written by tools/gen_vectors.py; not to be changed by hand.
use Rattle.index_vectors.proofs.ReferenceAndStringFormsHold.{form_line_strp as form_line_strp_holds, form_loclistx as form_loclistx_holds, form_ref1 as form_ref1_holds, form_ref2 as form_ref2_holds, form_ref4 as form_ref4_holds, form_ref8 as form_ref8_holds, form_ref_addr as form_ref_addr_holds, form_ref_udata as form_ref_udata_holds, form_rnglistx as form_rnglistx_holds, form_sdata as form_sdata_holds, form_sec_offset as form_sec_offset_holds, form_signature as form_signature_holds, form_string as form_string_holds, form_strp as form_strp_holds, form_strx as form_strx_holds, form_udata as form_udata_holds, form_vendor_attribute as form_vendor_attribute_holds}
use Rattle.index_vectors.proofs.reference_and_string_forms.Goals as goal

pub returns : goal.returns
returns c = record {
  form_line_strp = form_line_strp_holds;
  form_loclistx = form_loclistx_holds;
  form_ref1 = form_ref1_holds;
  form_ref2 = form_ref2_holds;
  form_ref4 = form_ref4_holds;
  form_ref8 = form_ref8_holds;
  form_ref_addr = form_ref_addr_holds;
  form_ref_udata = form_ref_udata_holds;
  form_rnglistx = form_rnglistx_holds;
  form_sdata = form_sdata_holds;
  form_sec_offset = form_sec_offset_holds;
  form_signature = form_signature_holds;
  form_string = form_string_holds;
  form_strp = form_strp_holds;
  form_strx = form_strx_holds;
  form_udata = form_udata_holds;
  form_vendor_attribute = form_vendor_attribute_holds;
}

-- Written by tools/gen_vectors.py; not to be changed by hand.
use Rattle.index_vectors.proofs.AddressAndBlockFormsHold.{form_addr as form_addr_holds, form_addrx as form_addrx_holds, form_addrx1 as form_addrx1_holds, form_addrx2 as form_addrx2_holds, form_addrx3 as form_addrx3_holds, form_addrx4 as form_addrx4_holds, form_attribute_0 as form_attribute_0_holds, form_block as form_block_holds, form_block1 as form_block1_holds, form_block2 as form_block2_holds, form_block4 as form_block4_holds}
use Rattle.index_vectors.proofs.address_and_block_forms.Goals as goal

pub returns : goal.returns
returns c = record {
  form_addr = form_addr_holds;
  form_addrx = form_addrx_holds;
  form_addrx1 = form_addrx1_holds;
  form_addrx2 = form_addrx2_holds;
  form_addrx3 = form_addrx3_holds;
  form_addrx4 = form_addrx4_holds;
  form_attribute_0 = form_attribute_0_holds;
  form_block = form_block_holds;
  form_block1 = form_block1_holds;
  form_block2 = form_block2_holds;
  form_block4 = form_block4_holds;
}

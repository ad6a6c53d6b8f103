-- Written by tools/gen_vectors.py; not to be changed by hand.
-- Each row of AddressAndBlockForms, by computation.
use Rattle.std.proofs.Common.{refl}
use Rattle.std.specs.Prelude.{codes}
use Rattle.index_vectors.specs.Says.{Prints}
use Rattle.index_vectors.specs.AddressAndBlockForms.{file_0, file_1, file_2, file_3, file_4, file_5, file_6, file_7, file_8, file_9, file_10}
use Rattle.index_vectors.proofs.Opened.{all_defs}

pub form_addr : Prints file_0 (codes "name main") 0 (codes "found 1\n0 1e 2e function global name main\n")
unfolding all_defs file_0
form_addr = refl

pub form_addrx : Prints file_1 (codes "name main") 0 (codes "found 1\n0 1e 2e function global name main\n")
unfolding all_defs file_1
form_addrx = refl

pub form_addrx1 : Prints file_2 (codes "name main") 0 (codes "found 1\n0 1e 2e function global name main\n")
unfolding all_defs file_2
form_addrx1 = refl

pub form_addrx2 : Prints file_3 (codes "name main") 0 (codes "found 1\n0 1e 2e function global name main\n")
unfolding all_defs file_3
form_addrx2 = refl

pub form_addrx3 : Prints file_4 (codes "name main") 0 (codes "found 1\n0 1e 2e function global name main\n")
unfolding all_defs file_4
form_addrx3 = refl

pub form_addrx4 : Prints file_5 (codes "name main") 0 (codes "found 1\n0 1e 2e function global name main\n")
unfolding all_defs file_5
form_addrx4 = refl

pub form_attribute_0 : Prints file_6 (codes "name main") 0 (codes "found 1\n0 1e 2e function global name main\n")
unfolding all_defs file_6
form_attribute_0 = refl

pub form_block : Prints file_7 (codes "name main") 0 (codes "found 1\n0 1e 2e function global name main\n")
unfolding all_defs file_7
form_block = refl

pub form_block1 : Prints file_8 (codes "name main") 0 (codes "found 1\n0 1e 2e function global name main\n")
unfolding all_defs file_8
form_block1 = refl

pub form_block2 : Prints file_9 (codes "name main") 0 (codes "found 1\n0 1e 2e function global name main\n")
unfolding all_defs file_9
form_block2 = refl

pub form_block4 : Prints file_10 (codes "name main") 0 (codes "found 1\n0 1e 2e function global name main\n")
unfolding all_defs file_10
form_block4 = refl

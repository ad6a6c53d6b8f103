-- Written by tools/gen_vectors.py; not to be changed by hand.
-- Each row of ReferenceAndStringForms, by computation.
use Rattle.std.proofs.Common.{refl}
use Rattle.std.specs.Prelude.{codes}
use Rattle.index_vectors.specs.Says.{Prints}
use Rattle.index_vectors.specs.ReferenceAndStringForms.{file_0, file_1, file_2, file_3, file_4, file_5, file_6, file_7, file_8, file_9, file_10, file_11, file_12, file_13, file_14, file_15, file_16}
use Rattle.index_vectors.proofs.Opened.{all_defs}

pub form_line_strp : Prints file_0 (codes "name main") 0 (codes "found 1\n0 1e 2e function global name main\n")
unfolding all_defs file_0
form_line_strp = refl

pub form_loclistx : Prints file_1 (codes "name main") 0 (codes "found 1\n0 1e 2e function global name main\n")
unfolding all_defs file_1
form_loclistx = refl

pub form_ref1 : Prints file_2 (codes "name main") 0 (codes "found 1\n0 1e 2e function global name main\n")
unfolding all_defs file_2
form_ref1 = refl

pub form_ref2 : Prints file_3 (codes "name main") 0 (codes "found 1\n0 1e 2e function global name main\n")
unfolding all_defs file_3
form_ref2 = refl

pub form_ref4 : Prints file_4 (codes "name main") 0 (codes "found 1\n0 1e 2e function global name main\n")
unfolding all_defs file_4
form_ref4 = refl

pub form_ref8 : Prints file_5 (codes "name main") 0 (codes "found 1\n0 1e 2e function global name main\n")
unfolding all_defs file_5
form_ref8 = refl

pub form_ref_addr : Prints file_6 (codes "name main") 0 (codes "found 1\n0 1e 2e function global name main\n")
unfolding all_defs file_6
form_ref_addr = refl

pub form_ref_udata : Prints file_7 (codes "name main") 0 (codes "found 1\n0 1e 2e function global name main\n")
unfolding all_defs file_7
form_ref_udata = refl

pub form_rnglistx : Prints file_8 (codes "name main") 0 (codes "found 1\n0 1e 2e function global name main\n")
unfolding all_defs file_8
form_rnglistx = refl

pub form_sdata : Prints file_9 (codes "name main") 0 (codes "found 1\n0 1e 2e function global name main\n")
unfolding all_defs file_9
form_sdata = refl

pub form_sec_offset : Prints file_10 (codes "name main") 0 (codes "found 1\n0 1e 2e function global name main\n")
unfolding all_defs file_10
form_sec_offset = refl

pub form_signature : Prints file_11 (codes "name main") 0 (codes "found 1\n0 1e 2e function global name main\n")
unfolding all_defs file_11
form_signature = refl

pub form_string : Prints file_12 (codes "name main") 0 (codes "found 1\n0 1e 2e function global name main\n")
unfolding all_defs file_12
form_string = refl

pub form_strp : Prints file_13 (codes "name main") 0 (codes "found 1\n0 1e 2e function global name main\n")
unfolding all_defs file_13
form_strp = refl

pub form_strx : Prints file_14 (codes "name main") 0 (codes "found 1\n0 1e 2e function global name main\n")
unfolding all_defs file_14
form_strx = refl

pub form_udata : Prints file_15 (codes "name main") 0 (codes "found 1\n0 1e 2e function global name main\n")
unfolding all_defs file_15
form_udata = refl

pub form_vendor_attribute : Prints file_16 (codes "name main") 0 (codes "found 1\n0 1e 2e function global name main\n")
unfolding all_defs file_16
form_vendor_attribute = refl

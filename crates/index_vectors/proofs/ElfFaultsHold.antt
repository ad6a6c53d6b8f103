-- Written by tools/gen_vectors.py; not to be changed by hand.
-- Each row of ElfFaults, by computation.
use Rattle.std.proofs.Common.{refl}
use Rattle.std.specs.Prelude.{codes}
use Rattle.index_vectors.specs.Says.{Prints}
use Rattle.index_vectors.specs.ElfFaults.{file_0, file_1, file_2, file_3, file_4, file_5, file_6, file_7, file_8}
use Rattle.index_vectors.proofs.Opened.{all_defs}

pub empty_file : Prints file_0 (codes "name main") 1 (codes "refused 1 0\n")
unfolding all_defs file_0
empty_file = refl

pub file_a_cut_to_63_bytes : Prints file_1 (codes "name main") 1 (codes "refused 1 0\n")
unfolding all_defs file_1
file_a_cut_to_63_bytes = refl

pub other_magic : Prints file_2 (codes "name main") 1 (codes "refused 1 0\n")
unfolding all_defs file_2
other_magic = refl

pub elf_class_32 : Prints file_3 (codes "name main") 1 (codes "refused 2 4\n")
unfolding all_defs file_3
elf_class_32 = refl

pub elf_big_endian : Prints file_4 (codes "name main") 1 (codes "refused 2 5\n")
unfolding all_defs file_4
elf_big_endian = refl

pub elf_class_before_order_of_bytes : Prints file_5 (codes "name main") 1 (codes "refused 2 4\n")
unfolding all_defs file_5
elf_class_before_order_of_bytes = refl

pub relocatable_file : Prints file_6 (codes "name main") 1 (codes "refused 2 10\n")
unfolding all_defs file_6
relocatable_file = refl

pub elf_core_file : Prints file_7 (codes "name main") 1 (codes "refused 2 10\n")
unfolding all_defs file_7
elf_core_file = refl

pub elf_order_of_bytes_before_type : Prints file_8 (codes "name main") 1 (codes "refused 2 5\n")
unfolding all_defs file_8
elf_order_of_bytes_before_type = refl

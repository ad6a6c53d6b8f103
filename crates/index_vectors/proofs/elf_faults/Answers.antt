-- Written by tools/gen_vectors.py; not to be changed by hand.
use Rattle.index_vectors.proofs.ElfFaultsHold.{empty_file as empty_file_holds, file_a_cut_to_63_bytes as file_a_cut_to_63_bytes_holds, other_magic as other_magic_holds, elf_class_32 as elf_class_32_holds, elf_big_endian as elf_big_endian_holds, elf_class_before_order_of_bytes as elf_class_before_order_of_bytes_holds, relocatable_file as relocatable_file_holds, elf_core_file as elf_core_file_holds, elf_order_of_bytes_before_type as elf_order_of_bytes_before_type_holds}
use Rattle.index_vectors.proofs.elf_faults.Goals as goal

pub returns : goal.returns
returns c = record {
  empty_file = empty_file_holds;
  file_a_cut_to_63_bytes = file_a_cut_to_63_bytes_holds;
  other_magic = other_magic_holds;
  elf_class_32 = elf_class_32_holds;
  elf_big_endian = elf_big_endian_holds;
  elf_class_before_order_of_bytes = elf_class_before_order_of_bytes_holds;
  relocatable_file = relocatable_file_holds;
  elf_core_file = elf_core_file_holds;
  elf_order_of_bytes_before_type = elf_order_of_bytes_before_type_holds;
}

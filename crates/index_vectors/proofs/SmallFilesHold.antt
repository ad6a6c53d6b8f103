-- Written by tools/gen_vectors.py; not to be changed by hand.
-- Each row of SmallFiles, by computation.
use Rattle.std.proofs.Common.{refl}
use Rattle.std.specs.Prelude.{codes}
use Rattle.index_vectors.specs.Says.{IsBadQuery, Prints, PrintsLength}
use Rattle.index_vectors.specs.SmallFiles.{file_0, file_1, file_2, file_3, file_4}
use Rattle.index_vectors.proofs.Opened.{all_defs}

pub one_name_in_file_a : Prints file_0 (codes "name main") 0 (codes "found 1\n0 1e 2e function global name main\n")
unfolding all_defs file_0
one_name_in_file_a = refl

pub main_of_file_a : Prints file_0 (codes "main") 0 (codes "main c main\n")
unfolding all_defs file_0
main_of_file_a = refl

pub address_inside_file_a : Prints file_0 (codes "addr 101F") 0 (codes "unit 0\n")
unfolding all_defs file_0
address_inside_file_a = refl

pub address_past_file_a : Prints file_0 (codes "addr 1020") 0 (codes "none\n")
unfolding all_defs file_0
address_past_file_a = refl

pub ask_address_of_16_digits : Prints file_0 (codes "addr 000000000000101F") 0 (codes "unit 0\n")
unfolding all_defs file_0
ask_address_of_16_digits = refl

pub ask_name_of_two_words : Prints file_0 (codes "name main main") 0 (codes "found 0\n")
unfolding all_defs file_0
ask_name_of_two_words = refl

pub ask_name_with_two_spaces : Prints file_0 (codes "name  x") 0 (codes "found 0\n")
unfolding all_defs file_0
ask_name_with_two_spaces = refl

pub nothing_indexed_in_file_e : Prints file_1 (codes "name main") 0 (codes "found 0\n")
unfolding all_defs file_1
nothing_indexed_in_file_e = refl

pub indexed_name_before_its_base : Prints file_2 (codes "name main") 0 (codes "found 1\n0 1f 2e function global name main\n")
unfolding all_defs file_2
indexed_name_before_its_base = refl

pub c_compiler_file_int : Prints file_3 (codes "simple int") 0 (codes "found 1\n0 2e 24 type static name int\n")
unfolding all_defs file_3
c_compiler_file_int = refl

pub c_compiler_file_main : Prints file_3 (codes "name main") 0 (codes "found 1\n0 35 2e function global name main\n")
unfolding all_defs file_3
c_compiler_file_main = refl

pub c_compiler_file_main_program : Prints file_3 (codes "main") 0 (codes "main 1d main\n")
unfolding all_defs file_3
c_compiler_file_main_program = refl

pub c_compiler_file_parameter : Prints file_3 (codes "name argc") 0 (codes "found 0\n")
unfolding all_defs file_3
c_compiler_file_parameter = refl

pub three_helpers : Prints file_4 (codes "name helper") 0 (codes "found 3\n0 12 2e function static name helper\n1 39 2e function static name helper\n2 60 2e function global name helper\n")
unfolding all_defs file_4
three_helpers = refl

pub cache_of_file_a : PrintsLength file_0 (codes "cache") 0 (codes "cache 89\n")
unfolding all_defs file_0
cache_of_file_a = refl

pub usage_ask_address_of_17_digits : IsBadQuery file_0 (codes "addr 00000000000000001")
unfolding all_defs file_0
usage_ask_address_of_17_digits = refl

pub usage_ask_address_with_prefix : IsBadQuery file_0 (codes "addr 0x10")
unfolding all_defs file_0
usage_ask_address_with_prefix = refl

pub usage_ask_empty_name : IsBadQuery file_0 (codes "name ")
unfolding all_defs file_0
usage_ask_empty_name = refl

pub usage_ask_main_and_more : IsBadQuery file_0 (codes "main x")
unfolding all_defs file_0
usage_ask_main_and_more = refl

pub usage_ask_name_without_a_name : IsBadQuery file_0 (codes "name")
unfolding all_defs file_0
usage_ask_name_without_a_name = refl

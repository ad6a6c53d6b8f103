-- Written by tools/gen_vectors.py; not to be changed by hand.
-- Each row of CxxNames, by computation.
use Rattle.std.proofs.Common.{refl}
use Rattle.std.specs.Prelude.{codes}
use Rattle.index_vectors.specs.Says.{Prints}
use Rattle.index_vectors.specs.CxxNames.{file_0, file_1, file_2, file_3, file_4, file_5, file_6, file_7, file_8, file_9, file_10, file_11, file_12, file_13, file_14}
use Rattle.index_vectors.proofs.Opened.{all_defs}

pub method_over_three_units_by_name_1_workers : Prints file_0 (codes "name ns::C::f") 0 (codes "found 1\n0 13 2e function global name ns::C::f\n")
unfolding all_defs file_0
method_over_three_units_by_name_1_workers = refl

pub method_over_three_units_by_simple_1_workers : Prints file_0 (codes "simple f") 0 (codes "found 1\n0 13 2e function global name ns::C::f\n")
unfolding all_defs file_0
method_over_three_units_by_simple_1_workers = refl

pub method_over_three_units_address_inside : Prints file_0 (codes "addr 200f") 0 (codes "unit 0\n")
unfolding all_defs file_0
method_over_three_units_address_inside = refl

pub method_over_three_units_address_past : Prints file_0 (codes "addr 2010") 0 (codes "none\n")
unfolding all_defs file_0
method_over_three_units_address_past = refl

pub anonymous_namespace : Prints file_1 (codes "name (anonymous namespace)::f") 0 (codes "found 1\n0 11 2e function static name (anonymous namespace)::f\n")
unfolding all_defs file_1
anonymous_namespace = refl

pub anonymous_namespace_itself : Prints file_2 (codes "simple (anonymous namespace)") 0 (codes "found 1\n0 10 39 type global name (anonymous namespace)\n")
unfolding all_defs file_2
anonymous_namespace_itself = refl

pub class_without_a_name_gives_no_scope : Prints file_3 (codes "name t") 0 (codes "found 1\n0 11 16 type static name t\n")
unfolding all_defs file_3
class_without_a_name_gives_no_scope = refl

pub enumerator_of_a_scoped_enumeration : Prints file_4 (codes "name E::b") 0 (codes "found 1\n0 1b 28 variable global name E::b\n")
unfolding all_defs file_4
enumerator_of_a_scoped_enumeration = refl

pub enumerator_of_an_unscoped_enumeration : Prints file_4 (codes "name a") 0 (codes "found 1\n0 13 28 variable global name a\n")
unfolding all_defs file_4
enumerator_of_an_unscoped_enumeration = refl

pub enumerator_of_c_is_static : Prints file_5 (codes "name a") 0 (codes "found 1\n0 1a 28 variable static name a\n")
unfolding all_defs file_5
enumerator_of_c_is_static = refl

pub structure_of_c_is_static : Prints file_5 (codes "name S") 0 (codes "found 1\n0 10 13 type static name S\n")
unfolding all_defs file_5
structure_of_c_is_static = refl

pub structure_of_a_plain_language : Prints file_6 (codes "name t") 0 (codes "found 1\n0 13 16 type static name t\n")
unfolding all_defs file_6
structure_of_a_plain_language = refl

pub typedef_in_a_structure_of_c : Prints file_5 (codes "name t") 0 (codes "found 1\n0 13 16 type static name t\n")
unfolding all_defs file_5
typedef_in_a_structure_of_c = refl

pub inside_a_block_nothing_is_visited : Prints file_7 (codes "name q") 0 (codes "found 0\n")
unfolding all_defs file_7
inside_a_block_nothing_is_visited = refl

pub inside_a_subprogram_nothing_is_visited : Prints file_8 (codes "name q") 0 (codes "found 0\n")
unfolding all_defs file_8
inside_a_subprogram_nothing_is_visited = refl

pub linkage_name_asked_by_linkage_name : Prints file_9 (codes "name _Z1gv") 0 (codes "found 1\n0 13 2e function global linkage _Z1gv\n")
unfolding all_defs file_9
linkage_name_asked_by_linkage_name = refl

pub linkage_name_asked_by_name : Prints file_9 (codes "name g") 0 (codes "found 1\n0 13 2e function global name g\n")
unfolding all_defs file_9
linkage_name_asked_by_name = refl

pub linkage_name_equal_to_the_name : Prints file_10 (codes "name g") 0 (codes "found 1\n0 13 2e function global name g\n")
unfolding all_defs file_10
linkage_name_equal_to_the_name = refl

pub linkage_name_isnt_a_simple_name : Prints file_11 (codes "simple Lq") 0 (codes "found 0\n")
unfolding all_defs file_11
linkage_name_isnt_a_simple_name = refl

pub old_linkage_name : Prints file_12 (codes "name M") 0 (codes "found 1\n0 10 34 variable static linkage M\n")
unfolding all_defs file_12
old_linkage_name = refl

pub old_linkage_name_beside_the_new : Prints file_13 (codes "name M") 0 (codes "found 0\n")
unfolding all_defs file_13
old_linkage_name_beside_the_new = refl

pub variable_with_a_linkage_name : Prints file_11 (codes "name Lq") 0 (codes "found 1\n0 10 34 variable static linkage Lq\n")
unfolding all_defs file_11
variable_with_a_linkage_name = refl

pub constant_with_a_linkage_name : Prints file_14 (codes "name Lq") 0 (codes "found 0\n")
unfolding all_defs file_14
constant_with_a_linkage_name = refl

-- Written by tools/gen_vectors.py; not to be changed by hand.
-- Each row of AdaNames, by computation.
use Rattle.std.proofs.Common.{refl}
use Rattle.std.specs.Prelude.{codes}
use Rattle.index_vectors.specs.Says.{Prints}
use Rattle.index_vectors.specs.AdaNames.{file_0, file_1, file_2, file_3, file_4, file_5, file_6, file_7, file_8, file_9, file_10, file_11, file_12, file_13, file_14, file_15}
use Rattle.index_vectors.proofs.Opened.{all_defs}

pub ada_decodes___12_by_name : Prints file_0 (codes "name __12") 0 (codes "found 1\n0 10 2e function global name __12\n")
unfolding all_defs file_0
ada_decodes___12_by_name = refl

pub ada_decodes__ada__ada_q_by_name : Prints file_1 (codes "name _ada__ada_q") 0 (codes "found 1\n0 10 2e function global name _ada__ada_q\n")
unfolding all_defs file_1
ada_decodes__ada__ada_q_by_name = refl

pub ada_decodes__ada__ada_q_by_simple : Prints file_1 (codes "simple _ada__ada_q") 0 (codes "found 1\n0 10 2e function global name _ada__ada_q\n")
unfolding all_defs file_1
ada_decodes__ada__ada_q_by_simple = refl

pub ada_decodes__ada__by_name : Prints file_2 (codes "name _ada_") 0 (codes "found 1\n0 10 2e function global name _ada_\n")
unfolding all_defs file_2
ada_decodes__ada__by_name = refl

pub ada_decodes__ada_q_by_name : Prints file_3 (codes "name _ada_Q") 0 (codes "found 1\n0 10 2e function global name _ada_Q\n")
unfolding all_defs file_3
ada_decodes__ada_q_by_name = refl

pub ada_decodes__ada_x__y_by_name : Prints file_4 (codes "name x.y") 0 (codes "found 1\n0 10 2e function global name x.y\n")
unfolding all_defs file_4
ada_decodes__ada_x__y_by_name = refl

pub ada_decodes__ada_x__y_by_simple : Prints file_4 (codes "simple y") 0 (codes "found 1\n0 10 2e function global name x.y\n")
unfolding all_defs file_4
ada_decodes__ada_x__y_by_simple = refl

pub ada_decodes_a1__b_c_by_name : Prints file_5 (codes "name a1.b_c") 0 (codes "found 1\n0 10 2e function global name a1.b_c\n")
unfolding all_defs file_5
ada_decodes_a1__b_c_by_name = refl

pub ada_decodes_a1__b_c_by_simple : Prints file_5 (codes "simple b_c") 0 (codes "found 1\n0 10 2e function global name a1.b_c\n")
unfolding all_defs file_5
ada_decodes_a1__b_c_by_simple = refl

pub ada_decodes_a__1__2_by_name : Prints file_6 (codes "name a__1__2") 0 (codes "found 1\n0 10 2e function global name a__1__2\n")
unfolding all_defs file_6
ada_decodes_a__1__2_by_name = refl

pub ada_decodes_a__1_by_name : Prints file_7 (codes "name a") 0 (codes "found 1\n0 10 2e function global name a\n")
unfolding all_defs file_7
ada_decodes_a__1_by_name = refl

pub ada_decodes_a__1_by_simple : Prints file_7 (codes "simple a") 0 (codes "found 1\n0 10 2e function global name a\n")
unfolding all_defs file_7
ada_decodes_a__1_by_simple = refl

pub ada_decodes_a___b_by_name : Prints file_8 (codes "name a___b") 0 (codes "found 1\n0 10 2e function global name a___b\n")
unfolding all_defs file_8
ada_decodes_a___b_by_name = refl

pub ada_decodes_a__b2_by_name : Prints file_9 (codes "name a.b2") 0 (codes "found 1\n0 10 2e function global name a.b2\n")
unfolding all_defs file_9
ada_decodes_a__b2_by_name = refl

pub ada_decodes_a__b2_by_simple : Prints file_9 (codes "simple b2") 0 (codes "found 1\n0 10 2e function global name a.b2\n")
unfolding all_defs file_9
ada_decodes_a__b2_by_simple = refl

pub ada_decodes_a__b__c__12_by_name : Prints file_10 (codes "name a.b.c") 0 (codes "found 1\n0 10 2e function global name a.b.c\n")
unfolding all_defs file_10
ada_decodes_a__b__c__12_by_name = refl

pub ada_decodes_a__b__c__12_by_simple : Prints file_10 (codes "simple c") 0 (codes "found 1\n0 10 2e function global name a.b.c\n")
unfolding all_defs file_10
ada_decodes_a__b__c__12_by_simple = refl

pub ada_decodes_a__b_by_name : Prints file_11 (codes "name A__b") 0 (codes "found 1\n0 10 2e function global name A__b\n")
unfolding all_defs file_11
ada_decodes_a__b_by_name = refl

pub ada_decodes_a__by_name : Prints file_12 (codes "name a_") 0 (codes "found 1\n0 10 2e function global name a_\n")
unfolding all_defs file_12
ada_decodes_a__by_name = refl

pub ada_decodes_x___by_name : Prints file_13 (codes "name x__") 0 (codes "found 1\n0 10 2e function global name x__\n")
unfolding all_defs file_13
ada_decodes_x___by_name = refl

pub ada_decodes_x___by_simple : Prints file_13 (codes "simple x__") 0 (codes "found 1\n0 10 2e function global name x__\n")
unfolding all_defs file_13
ada_decodes_x___by_simple = refl

pub ada_main_procedure : Prints file_14 (codes "name demo") 0 (codes "found 1\n0 14 2e function global name demo\n")
unfolding all_defs file_14
ada_main_procedure = refl

pub ada_name_that_stays : Prints file_14 (codes "name pkg___XVE") 0 (codes "found 1\n0 45 16 type static name pkg___XVE\n")
unfolding all_defs file_14
ada_name_that_stays = refl

pub ada_overloaded_procedure : Prints file_14 (codes "simple proc") 0 (codes "found 1\n0 2b 2e function global name pkg.proc\n")
unfolding all_defs file_14
ada_overloaded_procedure = refl

pub inside_an_ada_subprogram : Prints file_15 (codes "name q") 0 (codes "found 1\n0 13 16 type static name q\n")
unfolding all_defs file_15
inside_an_ada_subprogram = refl

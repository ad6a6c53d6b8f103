-- Written by tools/gen_vectors.py; not to be changed by hand.
-- Each row of Sessions, by computation.
use Rattle.std.proofs.Common.{[], ◌∷◌, refl}
use Rattle.std.specs.Prelude.{codes}
use Rattle.index_vectors.specs.Says.{Serves}
use Rattle.index_vectors.specs.Sessions.{file_0, file_1, file_2}
use Rattle.index_vectors.proofs.Opened.{all_defs}

pub serve_all_queries : Serves file_0 (codes "main\nname main\nsimple main\naddr 101f\naddr 1020\ncache\nname x\n") (3 ∷ 3 ∷ 3 ∷ 3 ∷ 3 ∷ 3 ∷ 3 ∷ []) (codes "3 main c main\n3 found 1\n0 1e 2e function global name main\n3 found 1\n0 1e 2e function global name main\n3 unit 0\n3 none\n3 cache 89\n3 found 0\n")
unfolding all_defs file_0
serve_all_queries = refl

pub serve_three_lines : Serves file_0 (codes "main\n\nname main") (3 ∷ 3 ∷ []) (codes "3 main c main\n- bad query\n3 found 1\n0 1e 2e function global name main\n")
unfolding all_defs file_0
serve_three_lines = refl

pub serve_bad_queries_alone : Serves file_0 (codes "name \nname\nsimple \naddr \naddr 0x1\naddr 11112222333344445\ncache \nMain\n") [] (codes "- bad query\n- bad query\n- bad query\n- bad query\n- bad query\n- bad query\n- bad query\n- bad query\n")
unfolding all_defs file_0
serve_bad_queries_alone = refl

pub serve_carriage_return_stays : Serves file_0 (109 ∷ 97 ∷ 105 ∷ 110 ∷ 13 ∷ 10 ∷ 110 ∷ 97 ∷ 109 ∷ 101 ∷ 32 ∷ 109 ∷ 97 ∷ 105 ∷ 110 ∷ 13 ∷ 10 ∷ []) (3 ∷ []) (codes "- bad query\n3 found 0\n")
unfolding all_defs file_0
serve_carriage_return_stays = refl

pub serve_without_input : Serves file_0 [] [] []
unfolding all_defs file_0
serve_without_input = refl

pub serve_refused_code : Serves file_1 (codes "main\nname main\n") (4 ∷ 4 ∷ []) (codes "4 refused 19 c\n4 refused 19 c\n")
unfolding all_defs file_1
serve_refused_code = refl

pub serve_refused_header : Serves file_2 (codes "main\nx\ncache\n") (4 ∷ 4 ∷ []) (codes "4 refused 7 0\n- bad query\n4 refused 7 0\n")
unfolding all_defs file_2
serve_refused_header = refl

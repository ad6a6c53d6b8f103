-- Written by tools/gen_vectors.py; not to be changed by hand.
-- What a session writes line by line, by the stage of each look-up.
use Rattle.std.specs.Prelude.{ℕ, List, [], ◌∷◌, ◌++◌, codes}
use Rattle.index_vectors.specs.Parts2.{part_56, part_58, part_60}
use Rattle.index_vectors.specs.Says.{Serves}

unfoldable pub file_0 : List ℕ
file_0 =
    part_56

unfoldable pub file_1 : List ℕ
file_1 =
    (127 ∷ 69 ∷ 76 ∷ 70 ∷ 2 ∷ 1 ∷ 1 ∷ 0 ∷ 0 ∷ 0 ∷ 0 ∷ 0 ∷ 0 ∷ 0 ∷ 0 ∷ 0 ∷ 2 ∷ 0 ∷ 62 ∷ 0 ∷ 1 ∷ 0 ∷ 0 ∷ 0 ∷
    []) ++
    part_58

unfoldable pub file_2 : List ℕ
file_2 =
    (127 ∷ 69 ∷ 76 ∷ 70 ∷ 2 ∷ 1 ∷ 1 ∷ 0 ∷ 0 ∷ 0 ∷ 0 ∷ 0 ∷ 0 ∷ 0 ∷ 0 ∷ 0 ∷ 2 ∷ 0 ∷ 62 ∷ 0 ∷ 1 ∷ 0 ∷ 0 ∷ 0 ∷
    []) ++
    part_60

-- what each row says
abbrev pub Sessions : Type 0
Sessions = record {
  serve_all_queries : Serves file_0 (codes "main\nname main\nsimple main\naddr 101f\naddr 1020\ncache\nname x\n") (3 ∷ 3 ∷ 3 ∷ 3 ∷ 3 ∷ 3 ∷ 3 ∷ []) (codes "3 main c main\n3 found 1\n0 1e 2e function global name main\n3 found 1\n0 1e 2e function global name main\n3 unit 0\n3 none\n3 cache 89\n3 found 0\n");
  serve_three_lines : Serves file_0 (codes "main\n\nname main") (3 ∷ 3 ∷ []) (codes "3 main c main\n- bad query\n3 found 1\n0 1e 2e function global name main\n");
  serve_bad_queries_alone : Serves file_0 (codes "name \nname\nsimple \naddr \naddr 0x1\naddr 11112222333344445\ncache \nMain\n") [] (codes "- bad query\n- bad query\n- bad query\n- bad query\n- bad query\n- bad query\n- bad query\n- bad query\n");
  serve_carriage_return_stays : Serves file_0 (109 ∷ 97 ∷ 105 ∷ 110 ∷ 13 ∷ 10 ∷ 110 ∷ 97 ∷ 109 ∷ 101 ∷ 32 ∷ 109 ∷ 97 ∷ 105 ∷ 110 ∷ 13 ∷ 10 ∷ []) (3 ∷ []) (codes "- bad query\n3 found 0\n");
  serve_without_input : Serves file_0 [] [] [];
  serve_refused_code : Serves file_1 (codes "main\nname main\n") (4 ∷ 4 ∷ []) (codes "4 refused 19 c\n4 refused 19 c\n");
  serve_refused_header : Serves file_2 (codes "main\nx\ncache\n") (4 ∷ 4 ∷ []) (codes "4 refused 7 0\n- bad query\n4 refused 7 0\n");
}

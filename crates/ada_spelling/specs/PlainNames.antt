-- Names that GNAT gives to what stands in packages alone, here of lower-case letters: parts, joined by `__`.
use Rattle.std.specs.Prelude.{◌≡◌, ℕ, Bool, true, false, ◌&&◌, List, [], ◌∷◌, codes, Some}
use Rattle.std.specs.List.{list_all, join_by}
use Rattle.ada_spelling.specs.Bytes.{is_lower}
use Rattle.ada_spelling.specs.AdaNames.{decoded, encoded}

-- a part of lower-case letters, of which it has one at least
abbrev pub is_plain_part : List ℕ → Bool
is_plain_part [] = false
is_plain_part (b ∷ bs) = is_lower b && list_all is_lower bs

-- the parts with a text between each two
abbrev pub joined_by : List ℕ → List (List ℕ) → List ℕ
joined_by text parts = join_by (λ part. part) text parts

-- such a name is decoded to its parts with points between them, and these are encoded as the name
abbrev pub PlainNamesComeBack : Type 0
PlainNamesComeBack =
    (first : List ℕ) (others : List (List ℕ)) → is_plain_part first ≡ true → list_all is_plain_part others ≡ true
    → (decoded (joined_by (codes "__") (first ∷ others)) ≡ Some (joined_by (codes ".") (first ∷ others)))
    × (encoded (joined_by (codes ".") (first ∷ others)) ≡ joined_by (codes "__") (first ∷ others))

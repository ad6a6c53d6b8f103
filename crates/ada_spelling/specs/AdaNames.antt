-- The names of Ada as gdb decodes them, without operators and wide characters, and encodes them again (gdb/ada-lang.c, ada_decode, ada_encode_1).
use Rattle.std.specs.Prelude.{ℕ, Bool, ◌&&◌, ◌==◌, if◌then◌else◌, List, [], ◌∷◌, ◌++◌, codes, Option, Some, None, option_and_then}
use Rattle.std.specs.List.{list_all}
use Rattle.ada_spelling.specs.Bytes.{is_letter, has_end, shortened_by}
use Rattle.ada_spelling.specs.Affixes.{without_prefixes, is_refused, before_suffix, suffix_in_brackets}
use Rattle.ada_spelling.specs.Ends.{without_ends}
use Rattle.ada_spelling.specs.Parts.{parts_of}

-- a text, unless it is empty
abbrev pub unless_empty : List ℕ → Option (List ℕ)
unless_empty [] = None
unless_empty (b ∷ bs) = Some (b ∷ bs)

-- the decoded name, with a point for each `__`; none, where it can't be decoded
unfoldable pub decoded : List ℕ → Option (List ℕ)
decoded name =
    let whole = without_prefixes name in
    let parts = option_and_then parts_of (without_ends (before_suffix whole)) in
    if is_refused whole then None else option_and_then (λ text. unless_empty (text ++ suffix_in_brackets whole)) parts

-- without a closing bracket at the end
abbrev pub without_bracket : List ℕ → List ℕ
without_bracket text = if has_end (codes "]") text then shortened_by 1 text else text

-- whether a bracket opens the suffix: letters alone stand behind it, with a closing bracket or without
abbrev pub opens_suffix : ℕ → List ℕ → Bool
opens_suffix b behind = b == 91 && list_all is_letter (without_bracket behind)

-- a byte of a decoded name as an index has it: `__` for a point
abbrev pub encoded_byte : ℕ → List ℕ
encoded_byte b = if b == 46 then codes "__" else b ∷ []

-- a decoded name as it stands in an index: with `__` for each point, and a last `[x]` as `.x`
unfoldable pub encoded : List ℕ → List ℕ
encoded [] = []
encoded (b ∷ bs) =
    let more = encoded_byte b ++ encoded bs in
    if opens_suffix b bs then codes "." ++ without_bracket bs else more

-- The kinds of query lines (this project's own rule).
use Rattle.std.specs.Prelude.{ℕ, List, drop, bytes_eq, codes, Option, Some, None, if◌then◌else◌}
use Rattle.index_model.specs.Sections.{begins_with}
use Rattle.index_model.specs.Queries.{Query, AskName, AskSimple, AskMain, AskCache, asks_name, asks_address, hex_number}

-- a line of one word
abbrev pub word_asked : List ℕ → Option Query
word_asked line =
    if bytes_eq line (codes "main") then Some AskMain else
    if bytes_eq line (codes "cache") then Some AskCache else None

-- a line of a word, one space and an argument
abbrev pub argument_asked : List ℕ → Option Query
argument_asked line =
    if begins_with (codes "name ") line then asks_name AskName (drop 5 line) else
    if begins_with (codes "simple ") line then asks_name AskSimple (drop 7 line) else
    if begins_with (codes "addr ") line then asks_address (hex_number (drop 5 line)) else None

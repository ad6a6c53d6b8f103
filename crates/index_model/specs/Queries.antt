-- Queries, and the lines that ask them (this project's own rule).
use Rattle.std.specs.Prelude.{ℕ, ◌+◌, ◌*◌, ◌-◌, Bool, ◌&&◌, ◌||◌, nat_le, ◌==◌, if◌then◌else◌, List, [], ◌∷◌, length, drop, fold, bytes_eq, codes, Option, Some, None}
use Rattle.std.specs.List.{list_any, list_all}
use Rattle.index_model.specs.Sections.{begins_with}
use Rattle.index_model.specs.Stages.{main_available, finalised, cache_written}

-- what is asked
pub data Query : Type 0 where
  AskName AskSimple : List ℕ → Query
  AskAddress : ℕ → Query
  AskMain AskCache : Query

-- the stage that a query needs
abbrev pub need_of : Query → ℕ
need_of (AskAddress a) = main_available
need_of AskMain = main_available
need_of (AskName n) = finalised
need_of (AskSimple n) = finalised
need_of AskCache = cache_written

-- from low to high
abbrev pub is_between : ℕ → ℕ → ℕ → Bool
is_between low high b = nat_le low b && nat_le b high

-- 0 to 9, a to f, A to F
abbrev pub is_hex_digit : ℕ → Bool
is_hex_digit b = is_between 48 57 b || is_between 97 102 b || is_between 65 70 b

-- the number of a hexadecimal digit
abbrev pub hex_digit : ℕ → ℕ
hex_digit b = if nat_le 97 b then b - 87 else if nat_le 65 b then b - 55 else b - 48

-- 1 to 16 hexadecimal digits
unfoldable pub hex_number : List ℕ → Option ℕ
hex_number text = if nat_le 1 (length text) && nat_le (length text) 16 && list_all is_hex_digit text then Some (fold (λ n b. 16 * n + hex_digit b) 0 text) else None

-- an address is asked, where it is a number
abbrev pub asks_address : Option ℕ → Option Query
asks_address (Some a) = Some (AskAddress a)
asks_address None = None

-- a name is asked, where it isn't empty
abbrev pub asks_name : (List ℕ → Query) → List ℕ → Option Query
asks_name make [] = None
asks_name make (b ∷ bs) = Some (make (b ∷ bs))

-- the query of a line without its newline; none where it is a bad query
unfoldable pub query_of : List ℕ → Option Query
query_of line =
    if list_any (λ b. b == 10) line then None else
    if bytes_eq line (codes "main") then Some AskMain else
    if bytes_eq line (codes "cache") then Some AskCache else
    if begins_with (codes "name ") line then asks_name AskName (drop 5 line) else
    if begins_with (codes "simple ") line then asks_name AskSimple (drop 7 line) else
    if begins_with (codes "addr ") line then asks_address (hex_number (drop 5 line)) else None

-- The words of the command that answers from an index that is kept by the build-id of its program:
-- `cached [--workers N] [--quote] FILE STORE QUERY`.
use Rattle.std.specs.Prelude.{ℕ, ◌&&◌, nat_lt, if◌then◌else◌, List, [], ◌∷◌, length, Option, Some, None, option_and_then}
use Rattle.name_quotes.specs.declared.quote.Spelling.{Spelling}
use Rattle.command_words.specs.WordParts.{Quoting, is_file_name, quoting_and_others, workers_and_others}

-- `cached`: how many workers, how names are written, the file's name, what stands before the names of kept indexes, and the words of the query
pub record Kept : Type 0 where
  pub workers : ℕ
  pub spelling : Spelling
  pub file : List ℕ
  pub store : List ℕ
  pub query : List (List ℕ)

-- a file's name, that of a store, and then a query of one word or more
abbrev pub store_and_query : ℕ → Spelling → List (List ℕ) → Option Kept
store_and_query workers spelling [] = None
store_and_query workers spelling (file ∷ []) = None
store_and_query workers spelling (file ∷ store ∷ query) = if is_file_name file && is_file_name store && nat_lt 0 (length query) then Some (record { workers = workers; spelling = spelling; file = file; store = store; query = query }) else None

abbrev pub kept_from : ℕ → Quoting → Option Kept
kept_from workers q = store_and_query workers q.spelling q.others

-- the words behind `cached`
abbrev pub kept_of : List (List ℕ) → Option Kept
kept_of words = option_and_then (λ w. kept_from w.workers (quoting_and_others w.others)) (workers_and_others words)

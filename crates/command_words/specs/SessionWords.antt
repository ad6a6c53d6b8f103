-- The words of the commands that answer while they build: `serve [--workers N] [--wait S] [--quote] FILE`,
-- `race [--workers N] [--readers M] [--quote] FILE SCRIPT`.
use Rattle.std.specs.Prelude.{ℕ, ◌&&◌, ◌==◌, if◌then◌else◌, List, [], ◌∷◌, length, bytes_eq, codes, Option, Some, None, option_map, option_and_then}
use Rattle.command_words.specs.Numbers.{number_between}
use Rattle.name_quotes.specs.declared.quote.Spelling.{Spelling}
use Rattle.command_words.specs.WordParts.{Quoting, is_file_name, quoting_and_others, workers_and_others}

-- `serve`: how many workers, the least stage of the first mark, how names are written, and the file's name
pub record Served : Type 0 where
  pub workers : ℕ
  pub wait : ℕ
  pub spelling : Spelling
  pub file : List ℕ

-- `race`: how many workers and readers, how names are written, the file's name, and that of the script
pub record Raced : Type 0 where
  pub workers : ℕ
  pub readers : ℕ
  pub spelling : Spelling
  pub file : List ℕ
  pub script : List ℕ

-- a number, and the words behind it
pub record Counted : Type 0 where
  pub number : ℕ
  pub others : List (List ℕ)

-- a number within bounds, and the words behind it
abbrev pub number_before : ℕ → ℕ → List (List ℕ) → Option Counted
number_before low high [] = None
number_before low high (word ∷ others) = option_map (λ n. record { number = n; others = others }) (number_between low high word)

-- the number behind an option, or the default where the option isn't there
abbrev pub option_and_others : List ℕ → ℕ → ℕ → ℕ → List (List ℕ) → Option Counted
option_and_others name low high default [] = Some (record { number = default; others = [] })
option_and_others name low high default (word ∷ others) = if bytes_eq word name then number_before low high others else Some (record { number = default; others = word ∷ others })

-- one file's name and nothing behind it
abbrev pub serve_file : ℕ → ℕ → Spelling → List (List ℕ) → Option Served
serve_file workers wait spelling [] = None
serve_file workers wait spelling (file ∷ others) = if length others == 0 && is_file_name file then Some (record { workers = workers; wait = wait; spelling = spelling; file = file }) else None

abbrev pub serve_from : ℕ → ℕ → Quoting → Option Served
serve_from workers wait q = serve_file workers wait q.spelling q.others

-- the words behind `serve`
abbrev pub serve_of : List (List ℕ) → Option Served
serve_of words = option_and_then (λ w. option_and_then (λ s. serve_from w.workers s.number (quoting_and_others s.others)) (option_and_others (codes "--wait") 0 3 0 w.others)) (workers_and_others words)

-- the names of a file and of a script, and nothing behind them
abbrev pub race_files : ℕ → ℕ → Spelling → List (List ℕ) → Option Raced
race_files workers readers spelling [] = None
race_files workers readers spelling (file ∷ []) = None
race_files workers readers spelling (file ∷ script ∷ others) = if length others == 0 && is_file_name file && is_file_name script then Some (record { workers = workers; readers = readers; spelling = spelling; file = file; script = script }) else None

abbrev pub race_from : ℕ → ℕ → Quoting → Option Raced
race_from workers readers q = race_files workers readers q.spelling q.others

-- the words behind `race`
abbrev pub race_of : List (List ℕ) → Option Raced
race_of words = option_and_then (λ w. option_and_then (λ r. race_from w.workers r.number (quoting_and_others r.others)) (option_and_others (codes "--readers") 1 16 2 w.others)) (workers_and_others words)

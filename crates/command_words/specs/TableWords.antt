-- The words of the commands that read a table of a program beside its entries: `aranges [--workers N] FILE`,
-- `files [--workers N] FILE NAME`.
use Rattle.std.specs.Prelude.{ℕ, ◌&&◌, ◌==◌, if◌then◌else◌, List, [], ◌∷◌, length, Option, Some, None, option_and_then}
use Rattle.command_words.specs.WordParts.{is_file_name, workers_and_others}

-- `aranges`: how many workers, and the file's name
pub record Compared : Type 0 where
  pub workers : ℕ
  pub file : List ℕ

-- one file's name and nothing behind it
abbrev pub aranges_file : ℕ → List (List ℕ) → Option Compared
aranges_file workers [] = None
aranges_file workers (file ∷ others) = if length others == 0 && is_file_name file then Some (record { workers = workers; file = file }) else None

-- the words behind `aranges`
abbrev pub aranges_of : List (List ℕ) → Option Compared
aranges_of words = option_and_then (λ w. aranges_file w.workers w.others) (workers_and_others words)

-- `files`: how many workers, the file's name, and that of a source file
pub record Sought : Type 0 where
  pub workers : ℕ
  pub file : List ℕ
  pub name : List ℕ

-- a file's name and that of a source file, and nothing behind them
abbrev pub file_and_name : ℕ → List (List ℕ) → Option Sought
file_and_name workers [] = None
file_and_name workers (file ∷ []) = None
file_and_name workers (file ∷ name ∷ others) = if length others == 0 && is_file_name file && is_file_name name then Some (record { workers = workers; file = file; name = name }) else None

-- the words behind `files`
abbrev pub sought_of : List (List ℕ) → Option Sought
sought_of words = option_and_then (λ w. file_and_name w.workers w.others) (workers_and_others words)

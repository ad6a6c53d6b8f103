-- Names of files, taken off the words.
use Rattle.std.specs.Prelude.{ℕ, ◌&&◌, if◌then◌else◌, List, [], ◌∷◌, Option, Some, None}
use Rattle.command_words.specs.WordParts.{is_file_name}

-- a file's name, and the words behind it
pub record Named : Type 0 where
  pub file : List ℕ
  pub others : List (List ℕ)

abbrev pub file_and_others : List (List ℕ) → Option Named
file_and_others [] = None
file_and_others (file ∷ others) = if is_file_name file then Some (record { file = file; others = others }) else None

-- the names of two files, and the words behind them
pub record NamedTwo : Type 0 where
  pub first : List ℕ
  pub second : List ℕ
  pub others : List (List ℕ)

abbrev pub two_files_and_others : List (List ℕ) → Option NamedTwo
two_files_and_others [] = None
two_files_and_others (first ∷ []) = None
two_files_and_others (first ∷ second ∷ others) = if is_file_name first && is_file_name second then Some (record { first = first; second = second; others = others }) else None

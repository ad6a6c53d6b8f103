-- Parts of a command line that several commands share.
use Rattle.std.specs.Prelude.{ℕ, Bool, not, ◌&&◌, nat_lt, if◌then◌else◌, List, [], ◌∷◌, length, bytes_eq, codes, Option, Some, None, option_map}
use Rattle.name_quotes.specs.declared.quote.Spelling.{Spelling}
use Rattle.name_quotes.specs.declared.quote.Spelling.TheVariants.{Plain, Quoted}
use Rattle.index_model.specs.Sections.{begins_with}
use Rattle.command_words.specs.Numbers.{number_between}

-- the number of workers, and the words behind it
pub record Workers : Type 0 where
  pub workers : ℕ
  pub others : List (List ℕ)

-- a file's name isn't empty and doesn't begin with `--`
abbrev pub is_file_name : List ℕ → Bool
is_file_name word = nat_lt 0 (length word) && not (begins_with (codes "--") word)

-- what stands behind `--workers`: a number from 1 to 64
abbrev pub workers_before : List (List ℕ) → Option Workers
workers_before [] = None
workers_before (word ∷ others) = option_map (λ n. record { workers = n; others = others }) (number_between 1 64 word)

-- the workers that are asked for, 4 where none are, and the words behind that
abbrev pub workers_and_others : List (List ℕ) → Option Workers
workers_and_others [] = Some (record { workers = 4; others = [] })
workers_and_others (word ∷ others) = if bytes_eq word (codes "--workers") then workers_before others else Some (record { workers = 4; others = word ∷ others })

-- how names are written, and the words behind that
pub record Quoting : Type 0 where
  pub spelling : Spelling
  pub others : List (List ℕ)

-- quoted where that is asked for, and the words behind it
abbrev pub quoting_and_others : List (List ℕ) → Quoting
quoting_and_others [] = record { spelling = Plain; others = [] }
quoting_and_others (word ∷ others) = if bytes_eq word (codes "--quote") then record { spelling = Quoted; others = others } else record { spelling = Plain; others = word ∷ others }

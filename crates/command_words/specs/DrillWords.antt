-- The words of the command that tries the index of a generated program: `drill SEED UNITS N`.
use Rattle.std.specs.Prelude.{ℕ, ◌==◌, if◌then◌else◌, List, [], ◌∷◌, length, Option, None, option_map, option_and_then}
use Rattle.command_words.specs.Numbers.{number_between}

-- `drill`: the seed and the number of units of the program, and how many workers
pub record Drilled : Type 0 where
  pub seed : ℕ
  pub units : ℕ
  pub workers : ℕ

-- a seed, a number of units and one of workers
abbrev pub drill_numbers : List ℕ → List ℕ → List ℕ → Option Drilled
drill_numbers seed units workers = option_and_then (λ s. option_and_then (λ u. option_map (λ n. record { seed = s; units = u; workers = n }) (number_between 1 64 workers)) (number_between 1 100000 units)) (number_between 0 4294967295 seed)

-- the words behind `drill`
abbrev pub drill_of : List (List ℕ) → Option Drilled
drill_of [] = None
drill_of (seed ∷ []) = None
drill_of (seed ∷ units ∷ []) = None
drill_of (seed ∷ units ∷ workers ∷ others) = if length others == 0 then drill_numbers seed units workers else None

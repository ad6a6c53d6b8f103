-- The grammar's own words for two options are those of any option with a number behind it.
use Rattle.std.proofs.Common.{◌≡◌, ℕ, Bool, true, false, cond, List, [], ◌∷◌, refl, Some, None}
use Rattle.std.specs.Prelude.{Option, bytes_eq, codes, option_map}
use Rattle.command_words.specs.Numbers.{number_between}
use Rattle.command_words.specs.SessionWords.{Counted, number_before, option_and_others}
use Rattle.command_words.specs.WordParts.{Workers, workers_and_others, workers_before}
use Rattle.command_words.specs.Words.{Based, base_and_others, base_before}

abbrev pub as_workers : Counted → Workers
as_workers c = record { workers = c.number; others = c.others }

abbrev pub as_based : Counted → Based
as_based c = record { base = c.number; others = c.others }

workers_behind : (words : List (List ℕ)) → workers_before words ≡ option_map as_workers (number_before 1 64 words)
workers_behind [] = refl
workers_behind (word ∷ others) = by (number_between 1 64 word)
  where
    by : (n : Option ℕ) → option_map (λ k. record { workers = k; others = others }) n ≡ option_map as_workers (option_map (λ k. record { number = k; others = others }) n)
    by None = refl
    by (Some k) = refl

pub workers_are_counted : (words : List (List ℕ)) → workers_and_others words ≡ option_map as_workers (option_and_others (codes "--workers") 1 64 4 words)
workers_are_counted [] = refl
workers_are_counted (word ∷ others) = by (bytes_eq word (codes "--workers"))
  where
    by : (b : Bool) → cond b (workers_before others) (Some (record { workers = 4; others = word ∷ others })) ≡ option_map as_workers (cond b (number_before 1 64 others) (Some (record { number = 4; others = word ∷ others })))
    by true = workers_behind others
    by false = refl

base_behind : (words : List (List ℕ)) → base_before words ≡ option_map as_based (number_before 0 4294967295 words)
base_behind [] = refl
base_behind (word ∷ others) = by (number_between 0 4294967295 word)
  where
    by : (n : Option ℕ) → option_map (λ k. record { base = k; others = others }) n ≡ option_map as_based (option_map (λ k. record { number = k; others = others }) n)
    by None = refl
    by (Some k) = refl

pub base_is_counted : (words : List (List ℕ)) → base_and_others words ≡ option_map as_based (option_and_others (codes "--base") 0 4294967295 0 words)
base_is_counted [] = refl
base_is_counted (word ∷ others) = by (bytes_eq word (codes "--base"))
  where
    by : (b : Bool) → cond b (base_before others) (Some (record { base = 0; others = word ∷ others })) ≡ option_map as_based (cond b (number_before 0 4294967295 others) (Some (record { number = 0; others = word ∷ others })))
    by true = base_behind others
    by false = refl

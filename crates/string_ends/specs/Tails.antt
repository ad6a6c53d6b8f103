-- Strings by what is known of them.
use Rattle.std.specs.Prelude.{◌≡◌, ℕ, ◌+◌, ◌*◌, ◌^◌, ◌%◌, Bool, nat_le, List, [], ◌∷◌, length, slice_index, slice_index_or, Option, Some, None}
use Rattle.std.specs.List.{list_any}
use Rattle.string_ends.specs.declared.formula.Formula.{Formula}
use Rattle.string_ends.specs.declared.hashed.Hashed.{Hashed}
use Rattle.string_ends.specs.declared.tail.Tail.{Tail}
use Rattle.string_ends.specs.Formulas.{factor, hash_by, sum_by, term, weight}
use Rattle.string_ends.specs.Texts.{text_in}

-- a number of all bytes, from the last to the first
abbrev pub print_of : List ℕ → ℕ
print_of [] = 0
print_of (b ∷ bs) = (print_of bs * 0x9e3779b97f4a7c15 + b + 1) % 2 ^ 64

-- a byte from 80 on is among them
abbrev pub has_beyond_ascii : List ℕ → Bool
has_beyond_ascii text = list_any (λ c. nat_le 0x80 c) text

-- what is said of a string is so
pub record IsHashed (formula : Formula) (strings : List ℕ) (offset : ℕ) (h : Hashed) : Type 0 where
  pub text : List ℕ
  pub there : text_in strings offset ≡ Some text
  pub hash : h.hash ≡ hash_by formula text
  pub print : h.print ≡ print_of text
  pub beyond : h.is_beyond_ascii ≡ has_beyond_ascii text

-- the same of the string that begins at the place, by the parts of its hash
pub record IsTail (formula : Formula) (strings : List ℕ) (t : Tail) : Type 0 where
  pub text : List ℕ
  pub there : text_in strings t.at ≡ Some text
  pub sum : t.sum ≡ sum_by (factor formula) (term formula) text
  pub weight : t.weight ≡ weight (factor formula) text
  pub print : t.print ≡ print_of text
  pub beyond : t.is_beyond_ascii ≡ has_beyond_ascii text

-- what is said of the strings at these offsets is so
pub record AreHashed (formula : Formula) (strings offsets : List ℕ) (hashes : List (Option Hashed)) : Type 0 where
  pub size : length hashes ≡ length offsets
  pub each : (k : ℕ) (h : Hashed) → slice_index_or hashes k None ≡ Some h → IsHashed formula strings (slice_index offsets k) h

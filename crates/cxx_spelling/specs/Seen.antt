-- What is seen of the types of the code: lists in place of slices and vectors.
use Rattle.std.specs.Prelude.{◌≡◌, ℕ, Bool, true, false, List, [], ◌∷◌, ◌++◌, Option, Some, None, Result, Ok, Err}
use Rattle.std.specs.declared.alloc.AllocError.{AllocError}
use Rattle.cxx_spelling.specs.declared.literals.Digits.{Digits}
use Rattle.cxx_spelling.specs.declared.literals.Digits.TheVariants as written
use Rattle.cxx_spelling.specs.declared.token.Token.{Token}
use Rattle.cxx_spelling.specs.declared.translation.Translation.{Translation}
use Rattle.cxx_spelling.specs.declared.translation.Progress.{Progress}
use Rattle.cxx_spelling.specs.declared.translation.Progress.TheVariants as progress
use Rattle.cxx_spelling.specs.Tokens.{Lexeme}
use Rattle.std.specs.List.{filter}
use Rattle.cxx_spelling.specs.Translation.{State, Reached, Going, Finished, Refused, is_written}

-- the bytes of a token
abbrev pub seen_token : Token → Lexeme
seen_token t = record { kind = t.kind; text = t.text.now; rest = t.rest.now }

-- what is written of a literal
abbrev pub digits_bytes : Digits → List ℕ
digits_bytes (written.Lent bytes) = bytes.now
digits_bytes (written.Owned text) = text.items

-- what a stack has, the last one first
abbrev pub stacked : {X Y : Type 0} → (X → Y) → List X → List Y
stacked view [] = []
stacked view (x ∷ xs) = stacked view xs ++ view x ∷ []

abbrev pub seen : Translation → State
seen t = record {
  release = t.release;
  token = seen_token t.token;
  out = t.out.items;
  qualifiers = t.qualifiers;
  outer = stacked (λ set. set) t.outer.items;
  words = t.words;
  gaps = stacked (λ place. place) t.gaps.items;
  parts = t.current.now ∷ stacked (λ symbols. symbols.now) t.pending.items;
}

-- what is returned, and what is left, is what is reached, unless memory ran out
abbrev pub Reaches : State → Result Progress AllocError → Reached → Type 0
Reaches left (Ok progress.Going) reached = reached ≡ Going left
Reaches left (Ok progress.Finished) reached = reached ≡ Finished left
Reaches left (Ok progress.Refused) reached = reached ≡ Refused
Reaches left (Err _) reached = Unit {0}

-- where a run comes to a text, it is what was written, without the gaps that stayed
abbrev pub Runs : State → Result Bool AllocError → Option (List ℕ) → Type 0
Runs left (Ok true) text = text ≡ Some (filter is_written left.out)
Runs left (Ok false) text = text ≡ None
Runs left (Err _) text = Unit {0}

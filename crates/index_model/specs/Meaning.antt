-- A meaning, or what is first wrong: a fault, or the code of one whose place the reader of the text knows.
use Rattle.std.specs.Prelude.{ℕ, Bool, if◌then◌else◌, List, [], ◌∷◌, Option, Some, None, Result, Ok, Err}
use Rattle.ix_base.specs.declared.fault.Fault.{Fault}

infixl 10 ◌>>=◌
-- where nothing is wrong, f goes on with the value
abbrev pub ◌>>=◌ : {A B E : Type 0} → Result A E → (A → Result B E) → Result B E
(Ok x) >>= f = f x
(Err e) >>= f = Err e

infixl 10 ◌>>◌
-- where nothing is wrong, b comes next
abbrev pub ◌>>◌ : {A B E : Type 0} → Result A E → Result B E → Result B E
(Ok x) >> b = b
(Err e) >> b = Err e

-- a fault is a code and a place
abbrev pub fault : ℕ → ℕ → Fault
fault code place = record { code = code; at = place }

-- what is wrong, where the test fails
abbrev pub holds_or : {E : Type 0} → Bool → E → Result (record {}) E
holds_or test e = if test then Ok (record {}) else Err e

-- what is wrong, where there is no value
abbrev pub some_or : {A E : Type 0} → Option A → E → Result A E
some_or (Some x) e = Ok x
some_or None e = Err e

-- the place of what is wrong
abbrev pub at_place : {A : Type 0} → ℕ → Result A ℕ → Result A Fault
at_place place (Ok x) = Ok x
at_place place (Err code) = Err (fault code place)

-- what f gives of each, in order, or the first that is wrong
abbrev pub each : {A B E : Type 0} → (A → Result B E) → List A → Result (List B) E
each f [] = Ok []
each f (x ∷ xs) = do
  y ← f x
  ys ← each f xs
  Ok (y ∷ ys)

-- the value of what isn't wrong
abbrev pub value_of : {A E : Type 0} → Result A E → Option A
value_of (Ok x) = Some x
value_of (Err e) = None

-- the first fault, if there is one
abbrev pub wrong_in : {A E : Type 0} → Result A E → Option E
wrong_in (Ok x) = None
wrong_in (Err e) = Some e

-- where there is a value, what f gives of it; a missing one is no fault
abbrev pub if_some : {A B E : Type 0} → Option A → (A → Result (Option B) E) → Result (Option B) E
if_some None f = Ok None
if_some (Some x) f = f x

-- the value, or else the other meaning
abbrev pub some_else : {A E : Type 0} → Option A → Result (Option A) E → Result (Option A) E
some_else (Some x) other = Ok (Some x)
some_else None other = other

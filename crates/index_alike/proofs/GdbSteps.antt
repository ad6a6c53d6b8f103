-- What a meaning is, step by step.
use Rattle.std.proofs.Common.{◌≡◌, Bool, true, ◌<◌, ltb, ℕ, Option, Some, Result, Ok, ap, ◌∙◌, arith}
use Rattle.std.proofs.lemmas.Bool.Decides.{nat_tests}
use Rattle.index_model.specs.Meaning.{◌>>=◌, ◌>>◌, holds_or, some_or}

pub bind_is : {A B E : Type 0} (r : Result A E) (f : A → Result B E) (x : A) (y : Result B E) → r ≡ Ok x → f x ≡ y → (r >>= f) ≡ y
bind_is r f x y is more = ap (λ r. r >>= f) is ∙ more

pub then_is : {B E : Type 0} (b : Bool) (e : E) (s y : Result B E) → b ≡ true → s ≡ y → (holds_or b e >> s) ≡ y
then_is b e s y is more = ap (λ b. holds_or b e >> s) is ∙ more

pub some_is : {A B E : Type 0} (o : Option A) (e : E) (f : A → Result B E) (x : A) (y : Result B E) → o ≡ Some x → f x ≡ y → (some_or o e >>= f) ≡ y
some_is o e f x y is more = ap (λ o. some_or o e >>= f) is ∙ more

pub is_lt : (a b : ℕ) → a < b → ltb a b ≡ true
is_lt a b lt = grind (arith, nat_tests)

-- What a meaning without a fault was made of.
use Rattle.std.proofs.Common.{◌≡◌, ℕ, Bool, true, false, Option, Some, None, Result, Ok, Err, refl, ap}
use Rattle.ix_base.specs.Reading.{◌>>=◌ as ◌>>=?◌}
use Rattle.index_model.specs.Meaning.{◌>>=◌, ◌>>◌, holds_or, some_or, at_place}

pub bind_ok : {A B E : Type 0} (r : Result A E) (f : A → Result B E) (y : B) → (r >>= f) ≡ Ok y → (x : A) × (r ≡ Ok x) × (f x ≡ Ok y)
bind_ok (Ok x) f y is = (x, refl, is)
bind_ok (Err d) f y is = absurd cc

pub first_ok : {A B E : Type 0} (r : Result A E) (s : Result B E) (y : B) → (r >> s) ≡ Ok y → (x : A) × (r ≡ Ok x)
first_ok (Ok x) s y is = (x, refl)
first_ok (Err e) s y is = absurd cc

pub then_ok : {A B E : Type 0} (r : Result A E) (s : Result B E) (y : B) → (r >> s) ≡ Ok y → s ≡ Ok y
then_ok (Ok x) s y is = is
then_ok (Err d) s y is = absurd cc

pub holds_ok : {B E : Type 0} (b : Bool) (e : E) (s : Result B E) (y : B) → (holds_or b e >> s) ≡ Ok y → (b ≡ true) × (s ≡ Ok y)
holds_ok true e s y is = (refl, is)
holds_ok false e s y is = absurd cc

pub some_ok : {A B E : Type 0} (o : Option A) (e : E) (f : A → Result B E) (y : B) → (some_or o e >>= f) ≡ Ok y → (x : A) × (o ≡ Some x) × (f x ≡ Ok y)
some_ok (Some x) e f y is = (x, refl, is)
some_ok None e f y is = absurd cc

pub bind_some : {A B : Type 0} (r : Option A) (f : A → Option B) (y : B) → (r >>=? f) ≡ Some y → (x : A) × (r ≡ Some x) × (f x ≡ Some y)
bind_some (Some x) f y is = (x, refl, is)
bind_some None f y is = absurd cc

abbrev given : {A E : Type 0} → A → Result A E
given x = Ok x

pub same_ok : {A E : Type 0} (x y : A) → given {E = E} x ≡ given y → x ≡ y
same_ok x y e = cc

-- a value has no place of what is wrong
pub at_place_ok : {A : Type 0} (at : ℕ) (r : Result A ℕ) (x : A) → at_place at r ≡ Ok x → r ≡ Ok x
at_place_ok {A = A} at (Ok y) x is = ap {B = Result A ℕ} (λ (z : A). Ok z) (same_ok y x is)
at_place_ok at (Err code) x is = absurd cc

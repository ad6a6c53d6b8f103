-- What an option was made of.
use Rattle.std.proofs.Common.{◌≡◌, Bool, true, false, cond, Option, Some, None, refl}
use Rattle.std.specs.Prelude.{option_map, is_some}
use Rattle.std.proofs.lemmas.Option.{same_Some}

-- a value of a map is that of a value
pub of_option_map : {A B : Type 0} (f : A → B) (o : Option A) (y : B) → option_map f o ≡ Some y → (x : A) × (o ≡ Some x) × (f x ≡ y)
of_option_map f (Some x) y is = (x, refl, same_Some (f x) y is)
of_option_map f None y is = absurd cc

-- nothing where the test fails
pub cond_none : {A : Type 0} (b : Bool) (x : A) → cond b (Some x) None ≡ None → b ≡ false
cond_none true x e = absurd cc
cond_none false x e = refl

-- a map has a value where the option has one
pub some_of_map : {A B : Type 0} (f : A → B) (o : Option A) → is_some (option_map f o) ≡ is_some o
some_of_map f None = refl
some_of_map f (Some x) = refl

-- what has no value is none
pub none_from : {A : Type 0} (o : Option A) → is_some o ≡ false → o ≡ None
none_from None is = refl
none_from (Some x) is = absurd cc

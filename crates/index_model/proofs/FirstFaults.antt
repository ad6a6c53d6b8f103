-- The first fault of readings, one after the other.
use Rattle.std.proofs.Common.{◌≡◌, List, ◌∷◌, Some, None, Result, Ok, Err, refl}
use Rattle.ix_base.specs.declared.fault.Fault.{Fault}
use Rattle.index_model.specs.Meaning.{◌>>=◌, wrong_in}

module _ {B : Type 0} where
  pub then_none : (r : Result B Fault) (rest : Result (List B) Fault) → wrong_in r ≡ None → wrong_in (r >>= λ y. rest >>= λ ys. Ok (y ∷ ys)) ≡ wrong_in rest
  then_none (Ok y) (Ok ys) e = refl
  then_none (Ok y) (Err d) e = refl
  then_none (Err d) rest e = absurd cc

  pub then_some : (r : Result B Fault) (rest : Result (List B) Fault) (d : Fault) → wrong_in r ≡ Some d → wrong_in (r >>= λ y. rest >>= λ ys. Ok (y ∷ ys)) ≡ Some d
  then_some (Ok y) rest d e = absurd cc
  then_some (Err x) rest d e = e

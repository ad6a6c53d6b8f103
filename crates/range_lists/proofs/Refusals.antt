-- What a refusal says of the meaning.
use Rattle.std.proofs.Common.{◌≡◌, ℕ, Result, Err, sym, subst}
use Rattle.ix_base.specs.declared.or_memory.OrMemory.{OrMemory}
use Rattle.ix_base.specs.declared.or_memory.OrMemory.TheVariants.{Cause}
use Rattle.ix_base.specs.declared.fault.Fault.{Fault as AFault}
use Rattle.index_model.specs.Gives.{Stop}
use Rattle.ix_base.specs.declared.or_memory.OrMemory.TheVariants as stops
use Rattle.index_model.specs.Gives.{GivesFor, StopsAs}
use Rattle.range_lists.specs.Gives.{RefusedOr}

pub code_refused : {X Y : Type 0} (StandsFor : X → Y → Type 0) (r : Result X (OrMemory ℕ)) (meaning : Result Y ℕ) (code : ℕ) → r ≡ Err (Cause code) → meaning ≡ Err code → RefusedOr StandsFor r meaning
code_refused StandsFor r meaning code is wrong = subst (λ (x : Result _ (OrMemory ℕ)). RefusedOr StandsFor x meaning) (sym is) wrong

-- what the call below stopped at is what this one stops at
pub stopped_at : {X Y Z : Type 0} (StandsFor : X → Y → Type 0) (r : Result X Stop) (below : Result Z AFault) (meaning : Result Y AFault) (stop : Stop) → r ≡ Err stop → StopsAs stop below → ((e : AFault) → below ≡ Err e → meaning ≡ Err e) → GivesFor StandsFor r meaning
stopped_at StandsFor r below meaning stops.Memory is h up = rw is tt
stopped_at StandsFor r below meaning (stops.Cause f) is h up = rw is (up f h)

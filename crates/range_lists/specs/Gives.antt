-- What a call gives that may be refused, where the place of a fault isn't known yet.
use Rattle.std.specs.Prelude.{◌≡◌, ℕ, Result, Ok, Err, IsOkAnd}
use Rattle.ix_base.specs.declared.or_memory.OrMemory.{OrMemory}
use Rattle.ix_base.specs.declared.or_memory.OrMemory.TheVariants.{Cause, Memory}

-- The refusal is the code of what is first wrong in the meaning. Memory may be refused at any meaning.
abbrev pub RefusedAs : {Y : Type 0} → OrMemory ℕ → Result Y ℕ → Type 0
RefusedAs (Cause code) meaning = meaning ≡ Err code
RefusedAs Memory meaning = Unit {0}

-- The answer, seen by view, is the meaning: its value at Ok, the code of what is first wrong in it at Err. Want of memory is free.
abbrev pub GivesOrRefused : {X Y : Type 0} → (X → Y) → Result X (OrMemory ℕ) → Result Y ℕ → Type 0
GivesOrRefused view (Ok x) meaning = meaning ≡ Ok (view x)
GivesOrRefused view (Err refusal) meaning = RefusedAs refusal meaning

-- The answer stands for the meaning: the relation holds of both values at Ok, and Err has the code of what is first wrong. Want of memory is free.
abbrev pub RefusedOr : {X Y : Type 0} → (X → Y → Type 0) → Result X (OrMemory ℕ) → Result Y ℕ → Type 0
RefusedOr StandsFor (Ok x) meaning = IsOkAnd meaning (StandsFor x)
RefusedOr StandsFor (Err refusal) meaning = RefusedAs refusal meaning

-- What a call that may stop gives.
use Rattle.std.specs.Prelude.{Result, Ok, Err}
use Rattle.index_model.specs.WriteStops.{WriteStop}
use Rattle.ix_base.specs.declared.or_memory.OrMemory.TheVariants.{Cause, Memory}

-- it is too large where Q, or memory was refused
abbrev pub StopsAt : WriteStop → Type 0 → Type 0
StopsAt (Cause t) Q = Q
StopsAt Memory Q = Unit {0}

-- the value holds P, or the call stops
abbrev pub Answers : {A : Type 0} → Result A WriteStop → (A → Type 0) → Type 0 → Type 0
Answers (Ok x) P Q = P x
Answers (Err stop) P Q = StopsAt stop Q

-- What a call answered is what the text means: its value, or what is first wrong.
use Rattle.std.specs.Prelude.{◌≡◌, Result, Ok, Err, IsOkAnd}
use Rattle.ix_base.specs.declared.fault.Fault.{Fault}
use Rattle.ix_base.specs.declared.or_memory.OrMemory.{OrMemory}
use Rattle.ix_base.specs.declared.or_memory.OrMemory.TheVariants as stops

-- Why a file gives no answer.
abbrev pub Stop : Type 0
Stop = OrMemory Fault

-- The call stopped at the first fault of the meaning. It may stop for want of memory at any meaning.
abbrev pub StopsAs : {Y : Type 0} → Stop → Result Y Fault → Type 0
StopsAs stops.Memory meaning = Unit {0}
StopsAs (stops.Cause f) meaning = meaning ≡ Err f

-- The answer, seen by view, is the meaning: its value at Ok, its first fault at Cause. Want of memory is free.
abbrev pub Gives : {X Y : Type 0} → (X → Y) → Result X Stop → Result Y Fault → Type 0
Gives view (Ok x) meaning = meaning ≡ Ok (view x)
Gives view (Err stop) meaning = StopsAs stop meaning

-- The answer stands for the meaning: the relation holds of both values at Ok, and Cause is the meaning's first fault. Want of memory is free.
abbrev pub GivesFor : {X Y : Type 0} → (X → Y → Type 0) → Result X Stop → Result Y Fault → Type 0
GivesFor StandsFor (Ok x) meaning = IsOkAnd meaning (StandsFor x)
GivesFor StandsFor (Err stop) meaning = StopsAs stop meaning

-- The same as Gives, where there is no want of memory: the answer, seen by view, is the meaning.
abbrev pub GivesAlways : {X Y E : Type 0} → (X → Y) → Result X E → Result Y E → Type 0
GivesAlways view (Ok x) meaning = meaning ≡ Ok (view x)
GivesAlways view (Err e) meaning = meaning ≡ Err e

-- What calls that may be refused bring as outputs of jobs.
use Rattle.std.specs.Prelude.{◌≡◌, ⊤, Vec, ℕ, Option, Some, None, Result, Ok, Err}
use Rattle.debugnames_write.specs.declared.writer.NameBytes.{NameBytes}
use Rattle.ix_base.specs.declared.fault.NoMemory.{NoMemory}
use Rattle.index_model.specs.Gives.{Stop}
use Rattle.index_model.specs.WriteStops.{WriteStop}
use Rattle.ix_base.specs.declared.or_memory.OrMemory.TheVariants as stops
use Rattle.index_model.specs.Cache.{GdbBytes, NameBytes as NamesAre, DoesNotFit}
use Rattle.index_model.specs.Machine.{Output, Memory, Faulty, Gave}
use Rattle.index_model.specs.Outputs.{Made, CacheOf}
use Rattle.stage_core.specs.declared.output.Cache.{Cache}
use Rattle.stage_core.specs.Outputs.{cache_seen}

-- the output that is meant, or want of memory
abbrev pub BringsAs : Output Made → Output Made → Type 0
BringsAs meant Memory = ⊤
BringsAs meant told = told ≡ meant

-- what was made, the first fault, or want of memory
abbrev pub output_of : {X : Type 0} → (X → Made) → Result X Stop → Output Made
output_of make (Ok x) = Gave (make x)
output_of make (Err (stops.Cause f)) = Faulty f
output_of make (Err stops.Memory) = Memory

-- what was made, or want of memory
abbrev pub output_or_memory : {X : Type 0} → (X → Made) → Result X NoMemory → Output Made
output_or_memory make (Ok x) = Gave (make x)
output_or_memory make (Err e) = Memory

-- the index, or want of memory
abbrev pub cache_output : Option Cache → Output Made
cache_output (Some cache) = Gave (CacheOf (cache_seen cache))
cache_output None = Memory

-- the bytes of a `.gdb_index`, that they don't fit, or want of memory
abbrev pub gdb_output : {Z : Type 0} → Result (Vec ℕ Z) WriteStop → Output Made
gdb_output (Ok bytes) = Gave (CacheOf (GdbBytes bytes.items))
gdb_output (Err (stops.Cause t)) = Gave (CacheOf DoesNotFit)
gdb_output (Err stops.Memory) = Memory

-- the bytes of a `.debug_names` and of its strings, that they don't fit, or want of memory
abbrev pub names_output : Result NameBytes WriteStop → Output Made
names_output (Ok bytes) = Gave (CacheOf (NamesAre bytes.names bytes.strings))
names_output (Err (stops.Cause t)) = Gave (CacheOf DoesNotFit)
names_output (Err stops.Memory) = Memory

-- Why no index was written.
use Rattle.ix_base.specs.declared.or_memory.OrMemory.{OrMemory}
use Rattle.ix_base.specs.declared.or_memory.OrMemory.TheVariants as stops
use Rattle.index_model.specs.declared.write_stop.TooLarge.{TooLarge}

abbrev pub WriteStop : Type 0
WriteStop = OrMemory TooLarge

-- it would be too large
abbrev pub too_large : WriteStop
too_large = stops.Cause (record {})

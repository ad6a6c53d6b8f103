-- The index of the entries that gdb lists, of a build.
use Rattle.std.specs.Prelude.{◌≡◌, ℕ, Vec, Option, Some, None, Result, Ok, Err, ⊤}
use Rattle.file_image.specs.Images.{Image}
use Rattle.ix_base.specs.declared.or_memory.OrMemory.TheVariants.{Cause, Memory}
use Rattle.index_model.specs.Cache.{GdbBytes, DoesNotFit}
use Rattle.index_model.specs.Faults.{Built, built_of}
use Rattle.index_model.specs.MainProgram.{main_of}
use Rattle.index_model.specs.Outputs.{Summary}
use Rattle.index_model.specs.Pieces.{IsPieces}
use Rattle.index_model.specs.WriteStops.{WriteStop}
use Rattle.stage_core.specs.declared.output.Cache.{Cache}
use Rattle.stage_core.specs.Outputs.{cache_seen}

-- main and the map are those of the image's file, which has no fault
pub record IsSummaryOf (image : Image) (m : Summary) : Type 0 where
  pub built : Built
  pub accepted : built_of image.file ≡ Ok built
  pub main : m.main ≡ main_of built.program built.links
  pub map : IsPieces built.ranges m.map

-- the bytes, that they don't fit, or want of memory
abbrev pub IsKept : {Z : Type 0} → Result (Vec ℕ Z) WriteStop → Option Cache → Type 0
IsKept (Ok v) (Some c) = cache_seen c ≡ GdbBytes v.items
IsKept (Err (Cause t)) (Some c) = cache_seen c ≡ DoesNotFit
IsKept (Err Memory) (Some c) = ⊥
IsKept r None = ⊤

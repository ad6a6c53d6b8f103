-- How a board begins. Contracts see a board as its lock, whose subject is the file, the cut of its units into runs and the kind
-- of the index.
use Rattle.std.specs.Prelude.{◌≡◌, ℕ, List, [], Option, Some, None, Result, Ok, Err}
use Rattle.std.specs.List.{enumerate_from}
use Rattle.ix_base.specs.declared.fault.Fault.{Fault}
use Rattle.index_model.specs.declared.unit.Unit.{Unit as UnitHeader}
use Rattle.index_model.specs.Machine.{IsCut}
use Rattle.index_model.specs.Stages.{initial, refused}
use Rattle.file_image.specs.Images.{Image, image_of}

-- the stage of a board without a turn: 4 where the sections or headers have a fault, else 0
abbrev pub stage_at_start : Result Image Fault → ℕ
stage_at_start (Ok image) = initial
stage_at_start (Err f) = refused

-- that of a file
abbrev pub first_stage : List ℕ → ℕ
first_stage file = stage_at_start (image_of file)

-- the image, or none where the sections or headers have a fault
abbrev pub IsImage : Result Image Fault → Option Image → Type 0
IsImage meaning (Some image) = meaning ≡ Ok image
IsImage meaning None = (f : Fault) × (meaning ≡ Err f)

-- the runs are a cut of the image's units into so many; there are none without an image
abbrev pub IsCutOf : Result Image Fault → ℕ → List (List (ℕ × UnitHeader)) → Type 0
IsCutOf (Ok image) shards runs = IsCut (enumerate_from 0 image.units) shards runs
IsCutOf (Err f) shards runs = runs ≡ []

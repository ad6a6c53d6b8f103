-- The ranges and the summary of a file whose references have no fault.
use Rattle.std.specs.Prelude.{◌≡◌, ℕ, List, take, IsOkAnd}
use Rattle.file_image.specs.Images.{Image}
use Rattle.index_model.specs.declared.range.UnitRange.{UnitRange}
use Rattle.index_model.specs.MainProgram.{main_of}
use Rattle.index_model.specs.Outputs.{Summary}
use Rattle.index_model.specs.Pieces.{IsPieces}
use Rattle.index_model.specs.Ranges.{ranges_in}
use Rattle.qualified_names.specs.Files.{ForLinks}
use Rattle.range_lists.specs.declared.found.FoundRanges.{FoundRanges}
use Rattle.range_lists.specs.Found.{AreRead}
use Rattle.range_lists.specs.Same.{HaveSameUnits}

-- the ranges of the first n units of the file have no fault, and what was found shows the same units
abbrev pub AreFirstRanges : Image → ℕ → FoundRanges → Type 0
AreFirstRanges image n found = ForLinks image (λ p ks. AreRead image.sections found × IsOkAnd (ranges_in p ks (take n p.walks)) (HaveSameUnits found.ranges.items))

-- main, and a map of these ranges
abbrev pub IsSummaryOf : Image → Summary → List UnitRange → Type 0
IsSummaryOf image m ranges = ForLinks image (λ p ks. (m.main ≡ main_of p ks) × IsPieces ranges m.map)

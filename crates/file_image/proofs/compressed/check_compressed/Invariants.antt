use Rattle.std.proofs.Common.{◌≡◌, ◌+◌, drop}
use Rattle.std.specs.Prelude.{map}
use Rattle.index_model.specs.Sections.{none_compressed}
use Rattle.file_image.specs.Found.{section}
use Rattle.file_image.proofs.compressed.check_compressed.Given as goal

-- whether one is compressed is what the sections that are left say
abbrev pub invariant-loop-index : goal.invariant-loop-index
invariant-loop-index l = none_compressed (l.index + 1) (map section (drop l.index l.found)) ≡ none_compressed 1 (map section l.found)

use Rattle.std.proofs.Common.{◌≡◌}
use Rattle.file_image.proofs.NamedPlaces.{named_from}
use Rattle.file_image.proofs.found.index_named.Given as goal

-- the index is that of the first among the sections that are left
abbrev pub invariant-loop-index : goal.invariant-loop-index
invariant-loop-index l = named_from l.found l.name l.index ≡ named_from l.found l.name 0
